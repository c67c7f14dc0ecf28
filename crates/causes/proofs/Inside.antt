-- The causes are of nets of the circuit, and none is explained at a tick after that of the first.
use Rattle.std.proofs.Common.{◌≡◌, ℕ, zero, suc, ◌+◌, ◌<◌, ◌≤◌, List, [], ◌∷◌, ◌++◌, length, Option, None, Some, All, arith, ap, refl}
use Rattle.std.proofs.lemmas.List.Elements.{All-nil, All-cons}
use Rattle.std.proofs.lemmas.Option.{same_Some}
use Rattle.design.specs.Circuit.{Circuit, IsCircuit}
use Rattle.causes.specs.declared.cause.Cause.{Cause}
use Rattle.causes.specs.Causes.{cause_behind, causes_of, causes_within, leads_to}
use Rattle.causes.proofs.Chain.{leads_within, took_by}

abbrev pub IsInside : Circuit → ℕ → Cause → Type 0
IsInside circuit top cause = (cause.net < length circuit) × (cause.at ≤ top)

within_inside : (circuit : Circuit) → IsCircuit circuit → (count : ℕ) (causes : List Cause) (next : Option (ℕ × ℕ)) (top : ℕ) →
    ((from : ℕ × ℕ) → next ≡ Some from → (from.0 < length circuit) × (from.1 ≤ top)) →
    All (IsInside circuit top) (causes_within circuit count causes next)
within_inside circuit ok zero causes next top inside = All-nil (IsInside circuit top)
within_inside circuit ok (suc count) causes None top inside = All-nil (IsInside circuit top)
within_inside circuit ok (suc count) causes (Some (net, tick)) top inside =
    let cause = cause_behind circuit causes net tick in
    let here = inside (net, tick) refl in
    All-cons (IsInside circuit top) cause (causes_within circuit count (causes ++ cause ∷ []) (leads_to circuit cause))
    (here.0, let took = took_by circuit causes net tick in omega (arith, took, here.1))
    (within_inside circuit ok count (causes ++ cause ∷ []) (leads_to circuit cause) top
    (λ from is. let w = leads_within circuit ok cause from is in let took = took_by circuit causes net tick in (w.0 here.0, omega (arith, w.1, took, here.1))))

pub causes_inside : (circuit : Circuit) → IsCircuit circuit → (net tick : ℕ) → net < length circuit → All (IsInside circuit tick) (causes_of circuit net tick)
unfolding causes_of
causes_inside circuit ok net tick below =
    within_inside circuit ok (tick + 1) [] (Some (net, tick)) tick
    (λ from is.
    let same = same_Some (net, tick) from is in
    let first : net ≡ from.0 = ap (λ (p : ℕ × ℕ). p.0) same in
    let second : tick ≡ from.1 = ap (λ (p : ℕ × ℕ). p.1) same in
    (omega (arith, below, first), omega (arith, second)))
