-- What waits at a pin is the end of what its source sent.
use Rattle.std.proofs.Common.{◌≡◌, ℕ, suc, ◌+◌, ◌-◌, ◌<◌, ◌≤◌, ◌==◌, Bool, true, false, cond, List, [], ◌∷◌, ◌++◌, length, drop, Some, slice_get, slice_index_or, refl, ap, sym, subst, ◌∙◌, arith, ◌⊎◌, inl, inr, length-append}
use Rattle.std.proofs.lemmas.Bool.{cases_eq, cases_lt, eqb-true, eqb-false}
use Rattle.std.proofs.lemmas.List.{drop-append-le, drop-drop, drop_all, get_or_past, length-drop}
use Rattle.cmb_channels.specs.declared.message.Message.{Message}
use Rattle.cmb_channels.specs.Lists.{sent, taken, update}
use Rattle.cmb_channels.proofs.CallerLemmas.{length-sent, length-update, sent_at, taken_at, taken_elsewhere}
use Rattle.kernel_uses.specs.Records.{IsEndOf, IsRecord}
use Rattle.kernel_uses.proofs.Histories.{list_updated, list_updated_other}

-- nothing is the end of whatever was sent
none_ends : (all : List Message) → IsEndOf [] all
none_ends all = drop_all (length all - 0) all (omega arith)

-- one message more at the end of both
ends_more : (messages all : List Message) (message : Message) → IsEndOf messages all → IsEndOf (messages ++ message ∷ []) (all ++ message ∷ [])
ends_more messages all message ends =
    let one = length-append all (message ∷ []) in
    let other = length-append messages (message ∷ []) in
    let count : length (all ++ message ∷ []) - length (messages ++ message ∷ []) ≡ length all - length messages = omega (arith, one, other) in
    ap (λ n. drop n (all ++ message ∷ [])) count
    ∙ drop-append-le (length all - length messages) all (message ∷ []) (omega arith)
    ∙ ap (λ xs. xs ++ message ∷ []) ends

-- and without the oldest
ends_fewer : (messages all : List Message) → IsEndOf messages all → IsEndOf (drop 1 messages) all
ends_fewer [] all ends = ends
ends_fewer (message ∷ messages) all ends =
    let long : length all - (length all - suc (length messages)) ≡ suc (length messages) =
    sym (length-drop (length all - suc (length messages)) all) ∙ ap length ends in
    let count : length all - length messages ≡ (length all - suc (length messages)) + 1 = omega (arith, long) in
    ap (λ n. drop n all) count ∙ sym (drop-drop 1 (length all - suc (length messages)) all) ∙ ap (drop 1) ends

module _ (lists : List (List Message)) (sources : List ℕ) (nets : ℕ) (history : List (List Message)) (is : IsRecord lists sources nets history) where
  -- a message that a net sent
  pub record_more : (net : ℕ) (message : Message) → net < nets →
      IsRecord (sent net (message ∷ []) sources lists) sources nets (update (λ list. list ++ message ∷ []) net history)
  record_more net message below = record {
    one_each = length-update (λ list. list ++ message ∷ []) net history ∙ is.one_each;
    ends = ends;
  }
    where
      ends : (pin source : ℕ) → slice_get sources pin ≡ Some source →
          IsEndOf (slice_index_or (sent net (message ∷ []) sources lists) pin [])
          (slice_index_or (update (λ list. list ++ message ∷ []) net history) source [])
      ends pin source feeds = go (cases_lt pin (length lists))
        where
          -- what its source sent, whether or not that is the net
          there : (same : Bool) → (source == net) ≡ same →
              IsEndOf (cond same (slice_index_or lists pin [] ++ message ∷ []) (slice_index_or lists pin []))
              (slice_index_or (update (λ list. list ++ message ∷ []) net history) source [])
          there true e =
              let is_net : source ≡ net = eqb-true source net e in
              let P : List Message → Type 0 = λ all. IsEndOf (slice_index_or lists pin [] ++ message ∷ []) all in
              let one_each = is.one_each in
              subst P (sym (ap (λ n. slice_index_or (update (λ list. list ++ message ∷ []) net history) n []) is_net
              ∙ list_updated (λ list. list ++ message ∷ []) net history (omega (arith, below, one_each))))
              (ends_more (slice_index_or lists pin []) (slice_index_or history net []) message
              (is.ends pin net (feeds ∙ ap (λ n. Some n) is_net)))
          there false e =
              let P : List Message → Type 0 = λ all. IsEndOf (slice_index_or lists pin []) all in
              subst P (sym (list_updated_other (λ list. list ++ message ∷ []) net history source (eqb-false source net e)))
              (is.ends pin source feeds)

          go : (pin < length lists) ⊎ (length lists ≤ pin) →
              IsEndOf (slice_index_or (sent net (message ∷ []) sources lists) pin [])
              (slice_index_or (update (λ list. list ++ message ∷ []) net history) source [])
          go (inl within) =
              let P : List Message → Type 0 = λ messages. IsEndOf messages (slice_index_or (update (λ list. list ++ message ∷ []) net history) source []) in
              subst P (sym (sent_at net (message ∷ []) sources lists pin source feeds within)) (there (source == net) refl)
          go (inr past) =
              let P : List Message → Type 0 = λ messages. IsEndOf messages (slice_index_or (update (λ list. list ++ message ∷ []) net history) source []) in
              let long = length-sent net (message ∷ []) sources lists in
              subst P (sym (get_or_past (sent net (message ∷ []) sources lists) pin [] (omega (arith, past, long))))
              (none_ends (slice_index_or (update (λ list. list ++ message ∷ []) net history) source []))

  -- a message that a pin took
  pub record_fewer : (pin : ℕ) → pin < length lists → IsRecord (taken pin lists) sources nets history
  record_fewer pin exists = record { one_each = is.one_each; ends = ends }
    where
      ends : (other source : ℕ) → slice_get sources other ≡ Some source →
          IsEndOf (slice_index_or (taken pin lists) other []) (slice_index_or history source [])
      ends other source feeds = go (cases_eq other pin)
        where
          go : (other ≡ pin) ⊎ (other ≡ pin → ⊥) → IsEndOf (slice_index_or (taken pin lists) other []) (slice_index_or history source [])
          go (inl same) =
              let P : List Message → Type 0 = λ messages. IsEndOf messages (slice_index_or history source []) in
              subst P (sym (ap (λ n. slice_index_or (taken pin lists) n []) same ∙ taken_at pin lists exists))
              (ends_fewer (slice_index_or lists pin []) (slice_index_or history source [])
              (is.ends pin source (ap (slice_get sources) (sym same) ∙ feeds)))
          go (inr apart) =
              let P : List Message → Type 0 = λ messages. IsEndOf messages (slice_index_or history source []) in
              subst P (sym (taken_elsewhere pin lists other apart)) (is.ends other source feeds)

-- the same, said of equal parts
pub record_same : {lists lists' : List (List Message)} {sources sources' : List ℕ} {nets nets' : ℕ} {history history' : List (List Message)} →
    lists' ≡ lists → sources' ≡ sources → nets' ≡ nets → history' ≡ history → IsRecord lists sources nets history → IsRecord lists' sources' nets' history'
record_same {lists} {lists'} {sources} {sources'} {nets} {nets'} {history} {history'} one two three four is =
    let P : List (List Message) → Type 0 = λ l. IsRecord l sources nets history in
    let Q : List ℕ → Type 0 = λ s. IsRecord lists' s nets history in
    let R : ℕ → Type 0 = λ n. IsRecord lists' sources' n history in
    let S : List (List Message) → Type 0 = λ h. IsRecord lists' sources' nets' h in
    subst S (sym four) (subst R (sym three) (subst Q (sym two) (subst P (sym one) is)))
