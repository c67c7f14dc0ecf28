-- The changes of a waveform rise: what `push` keeps, and what `value_at` finds by halving.
use Rattle.std.proofs.Common.{◌≡◌, ◌≢◌, ℕ, zero, suc, ◌+◌, ◌-◌, ◌<◌, ◌≤◌, nat_le, Bool, true, false, cond, List, [], ◌∷◌, ◌++◌, length, take, refl, ap, arith, ◌⊎◌, inl, inr}
use Rattle.std.specs.Prelude.{All, filter, slice_index_or, slice_get}
use Rattle.std.specs.Option.{option_map_or}
use Rattle.std.specs.List.Sorted.{IsPartitionPoint, IsNonDecreasingBy}
use Rattle.std.proofs.lemmas.Bool.{cases_lt}
use Rattle.std.proofs.lemmas.List.Elements.{All-head, All-tail}
use Rattle.logic3.specs.declared.value.Value.{Value}
use Rattle.logic3.specs.declared.change.Change.{Change}
use Rattle.logic3.specs.Rising.{RisesBy}
use Rattle.logic3.specs.Wave.{changes_until, value_after, value_in_the_end, Alternates}

-- a later change with another value may stand behind the others
pub Alternates-push : (before : Value) (low : ℕ) (changes : List Change) (change : Change) → low ≤ change.tick →
    Alternates before low changes → All (λ (earlier : Change). earlier.tick < change.tick) changes →
    change.value ≢ value_in_the_end before changes → Alternates before low (changes ++ change ∷ [])
Alternates-push before low [] change late rise earlier differs = (late, differs, tt)
Alternates-push before low (first ∷ changes) change late rise earlier differs =
    let P : Change → Type 0 = λ earlier. earlier.tick < change.tick in
    let here : first.tick < change.tick = All-head P first changes earlier in
    (rise.0, rise.1, Alternates-push first.value (first.tick + 1) changes change (omega arith) rise.2 (All-tail P first changes earlier) differs)

-- the value is that of the last change that is not after the tick
pub value_after-until : (before : Value) (changes : List Change) (tick : ℕ) →
    value_after before changes tick ≡ value_in_the_end before (changes_until tick changes)
value_after-until before [] tick = refl
value_after-until before (first ∷ changes) tick = go (nat_le first.tick tick) (λ v. value_after-until v changes tick)
  where
    go : (due : Bool) → ((v : Value) → value_after v changes tick ≡ value_in_the_end v (changes_until tick changes)) →
        value_after (cond due first.value before) changes tick
        ≡ value_in_the_end before (cond due (first ∷ changes_until tick changes) (changes_until tick changes))
    go true rest = rest first.value
    go false rest = rest before

value_in_the_end-cons : (before : Value) (first : Change) (changes : List Change) (d : Value) →
    value_in_the_end before (first ∷ changes) ≡ option_map_or (λ (change : Change). change.value) (slice_get (first ∷ changes) (length changes)) d
value_in_the_end-cons before first [] d = refl
value_in_the_end-cons before first (second ∷ changes) d = value_in_the_end-cons first.value second changes d

-- the last of some changes gives the value in the end
pub value_in_the_end-last : (before : Value) (changes : List Change) →
    value_in_the_end before changes ≡ option_map_or (λ (change : Change). change.value) (slice_get changes (length changes - 1)) before
value_in_the_end-last before [] = refl
value_in_the_end-last before (first ∷ changes) =
    let last : suc (length changes) - 1 ≡ length changes = omega arith in
    rw last (value_in_the_end-cons before first changes before)

-- what rises strictly doesn't fall, so halving finds the due changes
pub RisesBy-ascends : {A : Type 0} (key : A → ℕ) (xs : List A) → RisesBy key xs → IsNonDecreasingBy key xs
RisesBy-ascends key xs rise i j d le inside = go (cases_lt i j)
  where
    go : (i < j) ⊎ (j ≤ i) → key (slice_index_or xs i d) ≤ key (slice_index_or xs j d)
    go (inl less) =
        let below : key (slice_index_or xs i d) < key (slice_index_or xs j d) = rise i j d less inside in
        omega arith
    go (inr same) = let e : i ≡ j = omega arith in rw e (omega arith)

-- where those that pass come before those that don't, they are the first ones
pub take-partition : {A : Type 0} (test : A → Bool) (xs : List A) (count : ℕ) → count ≤ length xs →
    IsPartitionPoint (λ x. test x ≡ true) (λ x. test x ≡ false) xs count → take count xs ≡ filter test xs
take-partition test [] zero inside at = refl
take-partition test [] (suc count) inside at = absurd (omega arith)
take-partition test (x ∷ xs) zero inside at =
    let rest = take-partition test xs zero (omega arith) (λ k d low high. absurd (omega arith), λ k d low high. at.1 (suc k) d (omega arith) (omega arith)) in
    rw (at.1 0 x (omega arith) (omega arith)) rest
take-partition test (x ∷ xs) (suc count) inside at =
    let rest = take-partition test xs count (omega arith) (λ k d low high. at.0 (suc k) d (omega arith) (omega arith), λ k d low high. at.1 (suc k) d (omega arith) (omega arith)) in
    rw (at.0 0 x (omega arith) (omega arith)) (ap (λ ys. x ∷ ys) rest)
