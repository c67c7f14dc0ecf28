-- What waits, after one queue changed and after a message to many pins.
use Rattle.std.proofs.Common.{◌≡◌, ℕ, suc, ◌<◌, List, [], ◌∷◌, ◌++◌, length, Some, slice_get, slice_index_or, slice_set, option_map, ◌⊎◌, inl, inr, map, refl, ap, sym, subst, ◌∙◌, arith}
use Rattle.std.proofs.lemmas.List.{get_or-map, get_or-set_same, get_or-set_other, length-set, map-set}
use Rattle.std.proofs.Math.Seq.{map-set_same}
use Rattle.std.proofs.lemmas.Option.{slice_get-map, slice_get_read, slice_get_within, get_or_from_slice_get}
use Rattle.std.proofs.lemmas.Bool.{cases_eq}
use Rattle.std.specs.declared.collections.VecDeque.{VecDeque}
use Rattle.std.specs.VecDeque.{deque_len, deque_capacity}
use Rattle.cmb_channels.specs.declared.message.Message.{Message}
use Rattle.cmb_channels.specs.Lists.{update}
use Rattle.cmb_channels.specs.Waiting.{appended, lists_in, HasRoom}
use Rattle.cmb_channels.proofs.Places.{update-set, length-update}

pub length-appended : (message : Message) (pins : List ℕ) (lists : List (List Message)) → length (appended message pins lists) ≡ length lists
length-appended message [] lists = refl
length-appended message (pin ∷ pins) lists =
    length-appended message pins (update (λ list. list ++ message ∷ []) pin lists)
    ∙ length-update (λ list. list ++ message ∷ []) pin lists

-- a message at later pins leaves the first list
pub appended-suc : (message : Message) (pins : List ℕ) (list : List Message) (lists : List (List Message)) →
    appended message (map suc pins) (list ∷ lists) ≡ list ∷ appended message pins lists
appended-suc message [] list lists = refl
appended-suc message (pin ∷ pins) list lists = appended-suc message pins list (update (λ l. l ++ message ∷ []) pin lists)

module _ {A : Type 0} where
  -- the list of a queue, by its place
  pub list_at : (queues : List (VecDeque Message A)) (pin : ℕ) (queue : VecDeque Message A) → pin < length queues →
      queue ≡ slice_index_or queues pin queue → slice_index_or (lists_in queues) pin [] ≡ queue.items
  list_at queues pin queue within read =
      get_or-map (λ (q : VecDeque Message A). q.items) queues pin queue [] within ∙ ap (λ (q : VecDeque Message A). q.items) (sym read)

  pub lists_in-set : (queues : List (VecDeque Message A)) (pin : ℕ) (queue : VecDeque Message A) →
      lists_in (slice_set queues pin queue) ≡ slice_set (lists_in queues) pin queue.items
  lists_in-set queues pin queue = map-set (λ (q : VecDeque Message A). q.items) queues pin queue

  -- a queue whose messages stay
  pub lists_in-same : (queues : List (VecDeque Message A)) (pin : ℕ) (old new : VecDeque Message A) →
      old ≡ slice_index_or queues pin old → new.items ≡ old.items → lists_in (slice_set queues pin new) ≡ lists_in queues
  lists_in-same queues pin old new read same =
      map-set_same (λ (q : VecDeque Message A). q.items) queues pin new old (same ∙ ap (λ (q : VecDeque Message A). q.items) read)

  -- a queue with one message more at its end
  pub lists_in-push : (queues : List (VecDeque Message A)) (pin : ℕ) (message : Message) (old new : VecDeque Message A) → pin < length queues →
      old ≡ slice_index_or queues pin old → new.items ≡ old.items ++ message ∷ [] →
      lists_in (slice_set queues pin new) ≡ update (λ list. list ++ message ∷ []) pin (lists_in queues)
  lists_in-push queues pin message old new within read more =
      lists_in-set queues pin new
      ∙ ap (λ items. slice_set (lists_in queues) pin items) more
      ∙ sym (update-set (λ list. list ++ message ∷ []) pin (lists_in queues) old.items
      (slice_get-map (λ (q : VecDeque Message A). q.items) queues pin
      ∙ ap (λ o. option_map (λ (q : VecDeque Message A). q.items) o) (slice_get_read queues (length queues) pin old refl within read)))

  pub HasRoom-set_other : (queues : List (VecDeque Message A)) (pin other : ℕ) (queue : VecDeque Message A) → (other ≡ pin → ⊥) →
      HasRoom queues other → HasRoom (slice_set queues pin queue) other
  HasRoom-set_other queues pin other queue differs room = λ q e.
      let changed = slice_set queues pin queue in
      let within : other < length queues = omega (arith, slice_get_within changed other q e, length-set queues pin queue) in
      let same = sym (get_or_from_slice_get changed other q q e) ∙ get_or-set_other queues pin other queue q differs in
      room q (slice_get_read queues (length queues) other q refl within same)

  -- a queue with room takes room from no pin
  pub HasRoom-set : (queues : List (VecDeque Message A)) (pin other : ℕ) (queue : VecDeque Message A) → deque_len queue < deque_capacity queue →
      ((other ≡ pin → ⊥) → HasRoom queues other) → HasRoom (slice_set queues pin queue) other
  HasRoom-set queues pin other queue room others = go (cases_eq other pin)
    where
      go : (other ≡ pin) ⊎ (other ≡ pin → ⊥) → HasRoom (slice_set queues pin queue) other
      go (inl same) = λ q e.
          let changed = slice_set queues pin queue in
          let at : slice_get changed pin ≡ Some q = ap (slice_get changed) (sym same) ∙ e in
          let within : pin < length queues = omega (arith, slice_get_within changed pin q at, length-set queues pin queue) in
          let is : queue ≡ q = sym (get_or-set_same queues pin queue q within) ∙ get_or_from_slice_get changed pin q q at in
          subst (λ (w : VecDeque Message A). deque_len w < deque_capacity w) is room
      go (inr differs) = HasRoom-set_other queues pin other queue differs (others differs)
