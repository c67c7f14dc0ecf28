-- What a process knows of its pins, as its net sees them.
use Rattle.std.proofs.Common.{◌≡◌, ℕ, zero, suc, ◌+◌, ◌<◌, ◌≤◌, min, List, [], ◌∷◌, ◌++◌, length, map, take, get_or, Some, slice_get, refl, ap, sym, ◌∙◌, arith, suc-add}
use Rattle.std.proofs.lemmas.List.{length-take-le, map-append, take_all}
use Rattle.logic3.specs.declared.value.Value.{Value}
use Rattle.logic3.specs.Wave.{value_at}
use Rattle.design.specs.Equations.{values_at}
use Rattle.cmb_channels.specs.Lists.{update}
use Rattle.gate_process.specs.Knowledge.{Knowledge, seen, seen_pins, as_known}
use Rattle.gate_process.specs.Step.{ProcessState, least, least_or, safe_of, signals_of, all_kept}
use Rattle.gate_process.proofs.Frontiers.{least-more, least-mono}

pub length-seen_pins : (wires : List ℕ) (received : List Knowledge) → length wires ≡ length received → length (seen_pins wires received) ≡ length received
length-seen_pins [] [] e = refl
length-seen_pins [] (known ∷ received) e = absurd (omega arith)
length-seen_pins (wire ∷ wires) [] e = refl
length-seen_pins (wire ∷ wires) (known ∷ received) e = ap suc (length-seen_pins wires received (omega arith))

-- each with its wire
pub seen_pin : (wires : List ℕ) (received : List Knowledge) (place wire : ℕ) (known : Knowledge) → slice_get wires place ≡ Some wire →
    slice_get received place ≡ Some known → slice_get (seen_pins wires received) place ≡ Some (seen wire known)
seen_pin [] received place wire known a b = cc
seen_pin (wire ∷ wires) [] place wire' known a b = cc
seen_pin (wire ∷ wires) (known ∷ received) zero wire' known' a b =
    let same_wire : wire ≡ wire' = cc in
    let same : known ≡ known' = cc in
    λ i. Some (seen (same_wire i) (same i))
seen_pin (wire ∷ wires) (known ∷ received) (suc place) wire' known' a b = seen_pin wires received place wire' known' a b

-- ---- their frontiers

-- forgetting leaves them
pub frontiers-seen_kept : (process : ProcessState) (place : ℕ) (wires : List ℕ) (received : List Knowledge) →
    map (λ (known : Knowledge). known.frontier) (seen_pins wires (all_kept process place received))
    ≡ map (λ (known : Knowledge). known.frontier) (seen_pins wires received)
frontiers-seen_kept process place [] received = refl
frontiers-seen_kept process place (wire ∷ wires) [] = refl
frontiers-seen_kept process place (wire ∷ wires) (known ∷ received) =
    ap (λ ns. (known.frontier + wire) ∷ ns) (frontiers-seen_kept process (place + 1) wires received)

-- where one of the pins' frontiers rises, the least doesn't fall
least_seen-update : (bound : ℕ) (wires : List ℕ) (xs : List Knowledge) (place : ℕ) (change : Knowledge → Knowledge) →
    ((known : Knowledge) → slice_get xs place ≡ Some known → known.frontier ≤ (change known).frontier) →
    least bound (map (λ (known : Knowledge). known.frontier) (seen_pins wires xs))
    ≤ least bound (map (λ (known : Knowledge). known.frontier) (seen_pins wires (update change place xs)))
least_seen-update bound [] xs place change h = omega arith
least_seen-update bound (wire ∷ wires) [] place change h = omega arith
least_seen-update bound (wire ∷ wires) (x ∷ xs) zero change h =
    let raised = h x refl in
    least-mono (min bound (x.frontier + wire)) (min bound ((change x).frontier + wire)) (map (λ (known : Knowledge). known.frontier) (seen_pins wires xs)) (omega arith)
least_seen-update bound (wire ∷ wires) (x ∷ xs) (suc place) change h = least_seen-update (min bound (x.frontier + wire)) wires xs place change h

pub safe-update : (none : ℕ) (wires : List ℕ) (xs : List Knowledge) (place : ℕ) (change : Knowledge → Knowledge) →
    ((known : Knowledge) → slice_get xs place ≡ Some known → known.frontier ≤ (change known).frontier) →
    least_or none (map (λ (known : Knowledge). known.frontier) (seen_pins wires xs))
    ≤ least_or none (map (λ (known : Knowledge). known.frontier) (seen_pins wires (update change place xs)))
safe-update none [] xs place change h = omega arith
safe-update none (wire ∷ wires) [] place change h = omega arith
safe-update none (wire ∷ wires) (x ∷ xs) zero change h =
    let raised = h x refl in
    least-mono (x.frontier + wire) ((change x).frontier + wire) (map (λ (known : Knowledge). known.frontier) (seen_pins wires xs)) (omega arith)
safe-update none (wire ∷ wires) (x ∷ xs) (suc place) change h = least_seen-update (x.frontier + wire) wires xs place change h

-- what no pin's frontier is below, the least that the net sees isn't
least_seen_greatest : (bound low : ℕ) (wires : List ℕ) (received : List Knowledge) → low ≤ bound →
    ((place : ℕ) (known : Knowledge) → slice_get received place ≡ Some known → low ≤ known.frontier) →
    low ≤ least bound (map (λ (known : Knowledge). known.frontier) (seen_pins wires received))
least_seen_greatest bound low [] received h each = h
least_seen_greatest bound low (wire ∷ wires) [] h each = h
least_seen_greatest bound low (wire ∷ wires) (known ∷ received) h each =
    let here = each 0 known refl in
    least_seen_greatest (min bound (known.frontier + wire)) low wires received (omega arith) (λ place k e. each (suc place) k e)

pub safe_greatest : (process : ProcessState) (low : ℕ) → low ≤ process.end →
    ((place : ℕ) (known : Knowledge) → slice_get process.received place ≡ Some known → low ≤ known.frontier) → low ≤ safe_of process
safe_greatest process low h each = go process.net.wires process.received each
  where
    go : (wires : List ℕ) (received : List Knowledge) →
        ((place : ℕ) (known : Knowledge) → slice_get received place ≡ Some known → low ≤ known.frontier) →
        low ≤ least_or process.end (map (λ (known : Knowledge). known.frontier) (seen_pins wires received))
    go [] received each = h
    go (wire ∷ wires) [] each = h
    go (wire ∷ wires) (known ∷ received) each =
        let here = each 0 known refl in
        least_seen_greatest (known.frontier + wire) low wires received (omega arith) (λ place k e. each (suc place) k e)

-- ---- one pin more

pub seen-more : (wires : List ℕ) (received : List Knowledge) (at wire : ℕ) (pin : Knowledge) → length wires ≡ length received → at < length received →
    wire ≡ get_or wires at 0 → pin ≡ get_or received at pin →
    take (at + 1) (seen_pins wires received) ≡ take at (seen_pins wires received) ++ seen wire pin ∷ []
seen-more wires [] at wire pin long below a b = absurd (omega arith)
seen-more [] (known ∷ received) at wire pin long below a b = absurd (omega arith)
seen-more (first ∷ wires) (known ∷ received) zero wire pin long below a b = λ i. seen (sym a i) (sym b i) ∷ []
seen-more (first ∷ wires) (known ∷ received) (suc at) wire pin long below a b =
    rw suc-add (ap (λ ks. seen first known ∷ ks) (seen-more wires received at wire pin (omega arith) (omega arith) a b))

pub waves-more : (wires : List ℕ) (received : List Knowledge) (at wire : ℕ) (pin : Knowledge) → length wires ≡ length received → at < length received →
    wire ≡ get_or wires at 0 → pin ≡ get_or received at pin →
    map as_known (take at (seen_pins wires received)) ++ as_known (seen wire pin) ∷ []
    ≡ map as_known (take (at + 1) (seen_pins wires received))
waves-more wires received at wire pin long below a b =
    sym (ap (map as_known) (seen-more wires received at wire pin long below a b)
    ∙ map-append as_known (take at (seen_pins wires received)) (seen wire pin ∷ []))

-- what they show at a tick
pub values-more : (wires : List ℕ) (received : List Knowledge) (at wire tick : ℕ) (pin : Knowledge) → length wires ≡ length received →
    at < length received → wire ≡ get_or wires at 0 → pin ≡ get_or received at pin →
    values_at tick (signals_of (take at (seen_pins wires received))) ++ value_at (as_known (seen wire pin)) tick ∷ []
    ≡ values_at tick (signals_of (take (at + 1) (seen_pins wires received)))
values-more wires received at wire tick pin long below a b =
    sym (ap (λ seen. values_at tick (signals_of seen)) (seen-more wires received at wire pin long below a b)
    ∙ ap (values_at tick) (map-append (λ (known : Knowledge). value_at (as_known known)) (take at (seen_pins wires received)) (seen wire pin ∷ []))
    ∙ map-append (λ (signal : ℕ → Value). signal tick) (signals_of (take at (seen_pins wires received))) (value_at (as_known (seen wire pin)) ∷ []))

-- the least of the frontiers up to a place
abbrev pub least_so_far : ℕ → List ℕ → List Knowledge → ℕ → ℕ
least_so_far none wires received place = least_or none (map (λ (known : Knowledge). known.frontier) (take place (seen_pins wires received)))

-- it begins with the first, and each further one may be less
module _ (none : ℕ) (wires : List ℕ) (received : List Knowledge) (place wire : ℕ) (pin : Knowledge) (long : length wires ≡ length received)
    (below : place < length received) (wire_is : wire ≡ get_or wires place 0) (is : pin ≡ get_or received place pin) where
  one_frontier_more : least_so_far none wires received (place + 1)
      ≡ least_or none (map (λ (known : Knowledge). known.frontier) (take place (seen_pins wires received)) ++ (pin.frontier + wire) ∷ [])
  one_frontier_more =
      ap (λ seen. least_or none (map (λ (known : Knowledge). known.frontier) seen)) (seen-more wires received place wire pin long below wire_is is)
      ∙ ap (least_or none) (map-append (λ (known : Knowledge). known.frontier) (take place (seen_pins wires received)) (seen wire pin ∷ []))

  pub first_least : place ≡ 0 → pin.frontier + wire ≡ least_so_far none wires received (place + 1)
  first_least first =
      sym (one_frontier_more
      ∙ ap (λ n. least_or none (map (λ (known : Knowledge). known.frontier) (take n (seen_pins wires received)) ++ (pin.frontier + wire) ∷ [])) first)

  pub next_least : 0 < place → min (least_so_far none wires received place) (pin.frontier + wire) ≡ least_so_far none wires received (place + 1)
  next_least some =
      sym (one_frontier_more
      ∙ go (take place (seen_pins wires received))
      (length-take-le place (seen_pins wires received) (omega (arith, below, length-seen_pins wires received long))))
    where
      go : (seen : List Knowledge) → length seen ≡ place →
          least_or none (map (λ (known : Knowledge). known.frontier) seen ++ (pin.frontier + wire) ∷ [])
          ≡ min (least_or none (map (λ (known : Knowledge). known.frontier) seen)) (pin.frontier + wire)
      go [] count = absurd (omega (arith, count, some))
      go (first ∷ seen) count = least-more first.frontier (map (λ (known : Knowledge). known.frontier) seen) (pin.frontier + wire)

-- with all of them
pub all_seen : (wires : List ℕ) (received : List Knowledge) (place : ℕ) → length wires ≡ length received → length received ≤ place →
    take place (seen_pins wires received) ≡ seen_pins wires received
all_seen wires received place long done =
    take_all place (seen_pins wires received) (omega (arith, done, length-seen_pins wires received long))
