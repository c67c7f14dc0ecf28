-- What nets sent, when one of them sends.
use Rattle.std.proofs.Common.{◌≡◌, ℕ, zero, suc, ◌<◌, List, [], ◌∷◌, ◌++◌, length, Vec, slice_index_or, slice_set, option_map, refl, ap, sym, ◌∙◌, arith}
use Rattle.std.proofs.lemmas.List.{get_or-map, length-map, map-set}
use Rattle.std.proofs.Math.Seq.{map-set_same}
use Rattle.std.proofs.lemmas.Option.{slice_get-map, slice_get_read}
use Rattle.cmb_channels.specs.declared.message.Message.{Message}
use Rattle.cmb_channels.specs.Lists.{update}
use Rattle.cmb_channels.proofs.CallerLemmas.{update-set}
use Rattle.kernel_uses.specs.Records.{messages_in}

-- the list at a place, when it changes, and at another
pub list_updated : (change : List Message → List Message) (place : ℕ) (lists : List (List Message)) → place < length lists →
    slice_index_or (update change place lists) place [] ≡ change (slice_index_or lists place [])
list_updated change place [] below = absurd (omega arith)
list_updated change zero (list ∷ lists) below = refl
list_updated change (suc place) (list ∷ lists) below = list_updated change place lists (omega arith)

pub list_updated_other : (change : List Message → List Message) (place : ℕ) (lists : List (List Message)) (other : ℕ) → (other ≡ place → ⊥) →
    slice_index_or (update change place lists) other [] ≡ slice_index_or lists other []
list_updated_other change place [] other apart = refl
list_updated_other change zero (list ∷ lists) zero apart = absurd (apart refl)
list_updated_other change zero (list ∷ lists) (suc other) apart = refl
list_updated_other change (suc place) (list ∷ lists) zero apart = refl
list_updated_other change (suc place) (list ∷ lists) (suc other) apart =
    list_updated_other change place lists other (λ same. apart (ap suc same))

module _ {A : Type 0} where
  -- messages that stay
  pub messages_same : (history : List (Vec Message A)) (net : ℕ) (old new : Vec Message A) →
      old ≡ slice_index_or history net old → new.items ≡ old.items → messages_in (slice_set history net new) ≡ messages_in history
  messages_same history net old new read same =
      map-set_same (λ (messages : Vec Message A). messages.items) history net new old (same ∙ ap (λ (messages : Vec Message A). messages.items) read)

  -- one message more at the end of those of a net
  pub messages_more : (history : List (Vec Message A)) (net : ℕ) (message : Message) (old new : Vec Message A) → net < length history →
      old ≡ slice_index_or history net old → new.items ≡ old.items ++ message ∷ [] →
      messages_in (slice_set history net new) ≡ update (λ list. list ++ message ∷ []) net (messages_in history)
  messages_more history net message old new within read more =
      map-set (λ (messages : Vec Message A). messages.items) history net new
      ∙ ap (λ items. slice_set (messages_in history) net items) more
      ∙ sym (update-set (λ list. list ++ message ∷ []) net (messages_in history) old.items
      (slice_get-map (λ (messages : Vec Message A). messages.items) history net
      ∙ ap (λ o. option_map (λ (messages : Vec Message A). messages.items) o) (slice_get_read history (length history) net old refl within read)))

  -- those of a net, by its number
  pub messages_at : (history : List (Vec Message A)) (net : ℕ) (messages : Vec Message A) → net < length history →
      messages ≡ slice_index_or history net messages → slice_index_or (messages_in history) net [] ≡ messages.items
  messages_at history net messages within read =
      get_or-map (λ (m : Vec Message A). m.items) history net messages [] within ∙ ap (λ (m : Vec Message A). m.items) (sym read)

  pub length-messages_in : (history : List (Vec Message A)) → length (messages_in history) ≡ length history
  length-messages_in history = length-map history (λ (m : Vec Message A). m.items)
