-- The causes of a net's value, step by step, and their marks.
use Rattle.std.proofs.Common.{◌≡◌, ℕ, zero, suc, ◌+◌, ◌<◌, ◌≤◌, ◌==◌, List, [], ◌∷◌, ◌++◌, length, Option, None, Some, option_map, refl, ap, ◌∙◌, arith, nat_lt, Bool, true, false, cond, slice_get, append_assoc, append-nil}
use Rattle.std.specs.Option.{option_and_then, option_map_or}
use Rattle.std.proofs.lemmas.Bool.{ltb-true}
use Rattle.std.proofs.lemmas.Option.{none-some, same_Some}
use Rattle.netlist.specs.declared.part.Part.{Part}
use Rattle.netlist.specs.declared.part.Part.TheVariants.{Input, Gate, Flop}
use Rattle.timing_text.specs.declared.timing.Timing.{Timing}
use Rattle.timing_text.specs.Ranges.{HasTiming}
use Rattle.design.specs.Circuit.{Net, Circuit, IsCircuit}
use Rattle.design.specs.Equations.{value_of}
use Rattle.design.specs.Samples.{asked_of_part, asked_tick, source_tick, wire_at}
use Rattle.design.proofs.CallerLemmas.{asked-early, source_tick-is, timed_at, pins_at, All-slice_get}
use Rattle.causes.specs.declared.cause.Cause.{Cause}
use Rattle.causes.specs.declared.cause.Reason.{Reason}
use Rattle.causes.specs.declared.cause.Reason.TheVariants.{Pin, Swings}
use Rattle.causes.specs.Reasons.{source_at, source_of}
use Rattle.causes.proofs.LastTicks.{since-le}
use Rattle.causes.specs.Causes.{cause_behind, causes_within, explained_at, kept_at, leads_by, leads_to, taken_again}
use Rattle.causes.specs.Deciding.{since}

-- a net that looks at its pins looks at an earlier tick
asked_earlier : (part : Part) (timing : Timing) → HasTiming part timing → (tick asked : ℕ) → asked_of_part part timing tick ≡ Some asked → asked < tick
asked_earlier Input timing ok tick asked is = absurd (none-some asked is)
asked_earlier (Gate kind) timing ok tick asked is =
    let early = asked-early timing (Gate kind) ok.clock tick asked is in
    let some = ok.delay.0 in omega (arith, early, some)
asked_earlier Flop timing ok tick asked is =
    let early = asked-early timing Flop ok.clock tick asked is in
    let some = ok.delay.0 in omega (arith, early, some)

-- what a bind and a map of options give
bound : {A B : Type 0} (f : A → Option B) (o : Option A) (y : B) → option_and_then f o ≡ Some y → (x : A) × (o ≡ Some x) × (f x ≡ Some y)
bound f None y e = absurd (none-some y e)
bound f (Some x) y e = (x, refl, e)

mapped : {A B : Type 0} (f : A → B) (o : Option A) (y : B) → option_map f o ≡ Some y → (x : A) × (o ≡ Some x) × (f x ≡ y)
mapped f None y e = absurd (none-some y e)
mapped f (Some x) y e = (x, refl, same_Some (f x) y e)

-- a pin's source is a net, at an earlier tick
source_within : (circuit : Circuit) → IsCircuit circuit → (number tick place : ℕ) (from : ℕ × ℕ) →
    source_of (slice_get circuit number) tick place ≡ Some from → (from.0 < length circuit) × (from.1 < tick)
source_within circuit ok number tick place from is = go (slice_get circuit number) refl is
  where
    go : (there : Option Net) → slice_get circuit number ≡ there → source_of there tick place ≡ Some from → (from.0 < length circuit) × (from.1 < tick)
    go None at e = absurd (none-some from e)
    go (Some net) at e =
        let timed = timed_at circuit ok number net at in
        let asks = bound (λ asked. source_at net asked place) (asked_tick net tick) from e in
        let early = asked_earlier net.part net.timing timed.timing tick asks.0 asks.1 in
        let wired = bound (λ at. option_map (λ pin. (pin, at)) (slice_get net.pins place)) (source_tick (wire_at net place) asks.0) from asks.2 in
        let apart = source_tick-is (wire_at net place) asks.0 wired.0 wired.1 in
        let pinned = mapped (λ pin. (pin, wired.0)) (slice_get net.pins place) from wired.2 in
        let below = All-slice_get (λ pin. pin < length circuit) net.pins place pinned.0 (pins_at circuit ok number net at) pinned.1 in
        let first : pinned.0 ≡ from.0 = ap (λ (p : ℕ × ℕ). p.0) pinned.2 in
        let second : wired.0 ≡ from.1 = ap (λ (p : ℕ × ℕ). p.1) pinned.2 in
        (omega (arith, below, first), omega (arith, early, apart, second))

-- a cause that leads on names a pin
pub leads_within : (circuit : Circuit) → IsCircuit circuit → (cause : Cause) (from : ℕ × ℕ) → leads_to circuit cause ≡ Some from →
    (cause.net < length circuit → from.0 < length circuit) × (from.1 < cause.at)
leads_within circuit ok cause from is = go cause.reason is
  where
    go : (reason : Reason) → leads_by circuit reason cause.net cause.at ≡ Some from →
        (cause.net < length circuit → from.0 < length circuit) × (from.1 < cause.at)
    go (Pin place) e = let within = source_within circuit ok cause.net cause.at place from e in (λ below. within.0, within.1)
    go (Swings start period) e = began (nat_lt start cause.at) refl e
      where
        began : (before : Bool) → nat_lt start cause.at ≡ before → cond before (Some (cause.net, start)) None ≡ Some from →
            (cause.net < length circuit → from.0 < length circuit) × (from.1 < cause.at)
        began true is e =
            let same = same_Some (cause.net, start) from e in
            let first : cause.net ≡ from.0 = ap (λ (p : ℕ × ℕ). p.0) same in
            let second : start ≡ from.1 = ap (λ (p : ℕ × ℕ). p.1) same in
            let earlier = ltb-true start cause.at is in
            (λ below. omega (arith, below, first), omega (arith, second, earlier))
        began false is e = absurd (none-some from e)
    go _ e = absurd (none-some from e)

-- the ticks that are left where the walk stands
abbrev pub ticks_left : Option (ℕ × ℕ) → ℕ
ticks_left None = 0
ticks_left (Some from) = from.1 + 1

pub leads_back : (circuit : Circuit) → IsCircuit circuit → (cause : Cause) → ticks_left (leads_to circuit cause) ≤ cause.at
leads_back circuit ok cause = go (leads_to circuit cause) refl
  where
    go : (next : Option (ℕ × ℕ)) → leads_to circuit cause ≡ next → ticks_left next ≤ cause.at
    go None e = omega arith
    go (Some from) e = let within = leads_within circuit ok cause from e in omega (arith, within.1)

-- a value is explained at no later tick
pub explained-le : (tick since : ℕ) (again : Option ℕ) → since ≤ tick → explained_at tick since again ≤ tick
explained-le tick since again le = go (since == 0) again
  where
    kept : (none : Bool) → cond none 0 tick ≤ tick
    kept true = omega arith
    kept false = omega arith

    go : (first : Bool) (again : Option ℕ) → cond first (option_map_or (kept_at tick) again tick) since ≤ tick
    go true None = omega arith
    go true (Some later) = kept (later == 0)
    go false again = le

pub took_by : (circuit : Circuit) (causes : List Cause) (net tick : ℕ) → (cause_behind circuit causes net tick).at ≤ tick
took_by circuit causes net tick =
    explained-le tick (since (value_of circuit net) tick) (taken_again None causes net (value_of circuit net tick)) (since-le (value_of circuit net) tick)

-- more than enough steps give no more causes
pub enough : (circuit : Circuit) → IsCircuit circuit → (few many : ℕ) (causes : List Cause) (next : Option (ℕ × ℕ)) →
    ticks_left next ≤ few → ticks_left next ≤ many → causes_within circuit few causes next ≡ causes_within circuit many causes next
enough circuit ok zero zero causes next a b = refl
enough circuit ok zero (suc many) causes None a b = refl
enough circuit ok zero (suc many) causes (Some (net, tick)) a b = absurd (omega arith)
enough circuit ok (suc few) zero causes None a b = refl
enough circuit ok (suc few) zero causes (Some (net, tick)) a b = absurd (omega arith)
enough circuit ok (suc few) (suc many) causes None a b = refl
enough circuit ok (suc few) (suc many) causes (Some (net, tick)) a b =
    let cause = cause_behind circuit causes net tick in
    let back = leads_back circuit ok cause in
    let took = took_by circuit causes net tick in
    ap (λ rest. cause ∷ rest)
    (enough circuit ok few many (causes ++ cause ∷ []) (leads_to circuit cause) (omega (arith, back, took, a)) (omega (arith, back, took, b)))

-- one cause more
pub one_more : (circuit : Circuit) → IsCircuit circuit → (causes : List Cause) (net tick : ℕ) (cause : Cause) (next : Option (ℕ × ℕ)) →
    cause ≡ cause_behind circuit causes net tick → next ≡ leads_to circuit cause →
    (causes ++ cause ∷ []) ++ causes_within circuit (ticks_left next) (causes ++ cause ∷ []) next
    ≡ causes ++ causes_within circuit (tick + 1) causes (Some (net, tick))
one_more circuit ok causes net tick cause next is on =
    let behind = cause_behind circuit causes net tick in
    let back = leads_back circuit ok behind in
    let took = took_by circuit causes net tick in
    let next_is : next ≡ leads_to circuit behind = on ∙ ap (leads_to circuit) is in
    let same = enough circuit ok (ticks_left (leads_to circuit behind)) tick (causes ++ behind ∷ []) (leads_to circuit behind) (omega arith)
    (omega (arith, back, took)) in
    (λ i. (causes ++ is i ∷ []) ++ causes_within circuit (ticks_left (next_is i)) (causes ++ is i ∷ []) (next_is i))
    ∙ ap (λ rest. (causes ++ behind ∷ []) ++ rest) same
    ∙ append_assoc causes (behind ∷ []) (causes_within circuit tick (causes ++ behind ∷ []) (leads_to circuit behind))
    ∙ ap (λ count. causes ++ causes_within circuit count causes (Some (net, tick))) (let e : suc tick ≡ tick + 1 = omega arith in e)

-- where the walk ends there are no more
pub no_more : (circuit : Circuit) (causes : List Cause) (next : Option (ℕ × ℕ)) → next ≡ None →
    causes ++ causes_within circuit (ticks_left next) causes next ≡ causes
no_more circuit causes next none =
    (λ i. causes ++ causes_within circuit (ticks_left (none i)) causes (none i)) ∙ append-nil causes
