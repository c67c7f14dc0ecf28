-- What the pin that decides shows, and that it decides.
use Rattle.std.proofs.Common.{◌≡◌, ℕ, ◌<◌, ◌≤◌, ◌==◌, true, List, length, get_or, slice_get, Option, None, Some, refl, ap, sym, ◌∙◌, arith, subst}
use Rattle.std.specs.List.{list_any, position_or_len}
use Rattle.std.specs.Option.{option_map_or}
use Rattle.std.proofs.lemmas.Bool.{eqb-true}
use Rattle.std.proofs.lemmas.List.Folds.{list_any_at}
use Rattle.std.proofs.lemmas.List.Sums.{passes_at_first}
use Rattle.std.proofs.lemmas.List.Recursion.{max_bounds}
use Rattle.std.proofs.lemmas.Option.{none-some, same_Some, slice_get-get_or, slice_get_within, get_or_from_slice_get}
use Rattle.logic3.specs.declared.value.Value.{Value}
use Rattle.logic3.specs.declared.value.Value.TheVariants.{Zero, One, Unknown}
use Rattle.logic3.specs.declared.gates.GateKind.{GateKind}
use Rattle.logic3.specs.declared.gates.GateKind.TheVariants.{And, Nand, Or, Nor}
use Rattle.logic3.specs.Value.{is_same, is_same_equiv, opposite}
use Rattle.logic3.specs.Gate.{conjunction, disjunction, value_of_gate, HasArity}
use Rattle.logic3.proofs.CallerLemmas.{is_same-true}
use Rattle.causes.specs.Deciding.{controlling, deciding_place, deciding_value, greatest, first_greatest, IsControlled}
use Rattle.causes.proofs.Places.{any_place, first_greatest-within, unknown_pin}

pub unknown_decides : (kind : GateKind) (values : List Value) (since : List ℕ) → HasArity kind (length values) →
    value_of_gate kind values ≡ Unknown → slice_get values (deciding_place kind values since) ≡ Some Unknown
unknown_decides kind values since h is =
    let test : is_same (value_of_gate kind values) Unknown ≡ true = ap (λ v. is_same v Unknown) is in
    let some = unknown_pin kind values h (ap (is_same Unknown) is) in
    let within = any_place (is_same Unknown) values some in
    let place = position_or_len (is_same Unknown) values in
    let same = is_same-true Unknown (get_or values place Unknown) (passes_at_first (is_same Unknown) values Unknown within) in
    rw test (slice_get-get_or values place Unknown within ∙ ap Some (sym same))

some_shows : (values : List Value) (place : ℕ) (value : Value) → slice_get values place ≡ Some value → list_any (is_same value) values ≡ true
some_shows values place value at =
    list_any_at (is_same value) values place value (slice_get_within values place value at)
    (ap (is_same value) (get_or_from_slice_get values place value value at) ∙ is_same_equiv.refl value)

conjunction_settled : (values : List Value) (place : ℕ) → slice_get values place ≡ Some Zero → conjunction values ≡ Zero
conjunction_settled values place at = rw (some_shows values place Zero at) refl

disjunction_settled : (values : List Value) (place : ℕ) → slice_get values place ≡ Some One → disjunction values ≡ One
disjunction_settled values place at = rw (some_shows values place One at) refl

zero_settles : (values others : List Value) (value : Value) (place other : ℕ) → Some Zero ≡ Some value → slice_get values place ≡ Some value →
    slice_get others other ≡ Some value → conjunction others ≡ conjunction values
zero_settles values others value place other is at there =
    conjunction_settled others other (there ∙ sym is) ∙ sym (conjunction_settled values place (at ∙ sym is))

one_settles : (values others : List Value) (value : Value) (place other : ℕ) → Some One ≡ Some value → slice_get values place ≡ Some value →
    slice_get others other ≡ Some value → disjunction others ≡ disjunction values
one_settles values others value place other is at there =
    disjunction_settled others other (there ∙ sym is) ∙ sym (disjunction_settled values place (at ∙ sym is))

value_settles : (kind : GateKind) (values others : List Value) (value : Value) (place other : ℕ) → controlling kind ≡ Some value →
    slice_get values place ≡ Some value → slice_get others other ≡ Some value → value_of_gate kind others ≡ value_of_gate kind values
value_settles And values others value place other is at there = zero_settles values others value place other is at there
value_settles Nand values others value place other is at there = ap opposite (zero_settles values others value place other is at there)
value_settles Or values others value place other is at there = one_settles values others value place other is at there
value_settles Nor values others value place other is at there = ap opposite (one_settles values others value place other is at there)
value_settles _ values others value place other is at there = absurd (none-some value is)

pub settles : (kind : GateKind) (values others : List Value) → IsControlled kind values → IsControlled kind others →
    value_of_gate kind others ≡ value_of_gate kind values
settles kind values others one other =
    let same : other.value ≡ one.value = same_Some other.value one.value (sym other.controls ∙ one.controls) in
    value_settles kind values others one.value one.place other.place one.controls one.shown (other.shown ∙ ap Some same)

pub changed_last : (kind : GateKind) (values : List Value) (since : List ℕ) (place : ℕ) → deciding_value kind values ≡ None →
    place < length since → get_or since place 0 ≤ get_or since (deciding_place kind values since) 0
changed_last kind values since place none within =
    let top = max_bounds greatest (λ n. n) refl (λ x xs. refl) since place 0 within in
    let first = first_greatest-within since (omega arith) in
    let is = eqb-true (get_or since (first_greatest since) 0) (greatest since) (passes_at_first (λ n. n == greatest since) since 0 first) in
    let at : deciding_place kind values since ≡ first_greatest since =
    ap (λ (o : Option Value). option_map_or (λ value. position_or_len (is_same value) values) o (first_greatest since)) none in
    subst (λ k. get_or since place 0 ≤ get_or since k 0) (sym at) (omega (arith, top, is))
