-- The more is known of its pins, and of itself, the farther a net is reckoned.
use Rattle.std.proofs.Common.{◌≡◌, ℕ, zero, suc, ◌+◌, ◌<◌, ◌≤◌, min, List, [], ◌∷◌, length, map, Some, slice_get, refl, ap, sym, subst, ◌∙◌, arith, ◌⊎◌, inl, inr}
use Rattle.std.proofs.lemmas.Bool.{cases_lt}
use Rattle.logic3.specs.declared.value.Value.{Value}
use Rattle.logic3.specs.declared.value.Value.TheVariants.{Unknown}
use Rattle.logic3.specs.Gate.{Refines}
use Rattle.logic3.specs.Wave.{value_at}
use Rattle.netlist.specs.declared.part.Part.{Part}
use Rattle.netlist.specs.declared.part.Part.TheVariants.{Input, Gate, Flop}
use Rattle.timing_text.specs.Ranges.{HasClock}
use Rattle.design.specs.Circuit.{Net}
use Rattle.design.specs.Samples.{asked_of_part, asked_tick}
use Rattle.design.specs.Equations.{values_at, equation_of_part}
use Rattle.gate_process.specs.Knowledge.{Knowledge, seen, seen_pins, as_known}
use Rattle.gate_process.specs.Step.{ProcessState, least, least_or, frontier_of, reach_of_part, reach, next_frontier, signals_of}
use Rattle.gate_process.specs.Truth.{Meets, KnowsTruth}
use Rattle.gate_process.proofs.Frontiers.{frontier-end, frontier-mono}
use Rattle.gate_process.proofs.Reach.{reach-mono, next-end}
use Rattle.gate_process.proofs.Reckoned.{settled, pin_true}
use Rattle.gate_process.proofs.Delayed.{shows_unknown}

-- where one pin's value is X or that of the other, so it is with all
refines_more : (wires : List ℕ) (one other : List Knowledge) (at : ℕ) → length one ≡ length other →
    ((place wire : ℕ) (first second : Knowledge) → slice_get wires place ≡ Some wire → slice_get one place ≡ Some first →
    slice_get other place ≡ Some second →
    (value_at (as_known (seen wire first)) at ≡ Unknown) ⊎ (value_at (as_known (seen wire first)) at ≡ value_at (as_known (seen wire second)) at)) →
    Refines (values_at at (signals_of (seen_pins wires one))) (values_at at (signals_of (seen_pins wires other)))
refines_more [] one other at e h = tt
refines_more (wire ∷ wires) [] [] at e h = tt
refines_more (wire ∷ wires) [] (second ∷ other) at e h = absurd (omega arith)
refines_more (wire ∷ wires) (first ∷ one) [] at e h = absurd (omega arith)
refines_more (wire ∷ wires) (first ∷ one) (second ∷ other) at e h = (
  h 0 wire first second refl refl refl,
  refines_more wires one other at (omega arith) (λ place w a b x y z. h (suc place) w a b x y z),
)

-- the least frontier isn't less
least-more-known : (low high : ℕ) (wires : List ℕ) (one other : List Knowledge) → low ≤ high → length one ≡ length other →
    ((place : ℕ) (first second : Knowledge) → slice_get one place ≡ Some first → slice_get other place ≡ Some second → first.frontier ≤ second.frontier) →
    least low (map (λ (known : Knowledge). known.frontier) (seen_pins wires one))
    ≤ least high (map (λ (known : Knowledge). known.frontier) (seen_pins wires other))
least-more-known low high [] one other h e each = h
least-more-known low high (wire ∷ wires) [] [] h e each = h
least-more-known low high (wire ∷ wires) [] (second ∷ other) h e each = absurd (omega arith)
least-more-known low high (wire ∷ wires) (first ∷ one) [] h e each = absurd (omega arith)
least-more-known low high (wire ∷ wires) (first ∷ one) (second ∷ other) h e each =
    let here = each 0 first second refl refl in
    least-more-known (min low (first.frontier + wire)) (min high (second.frontier + wire)) wires one other (omega (arith, h, here)) (omega arith)
    (λ place a b x y. each (suc place) a b x y)

safe-more : (none : ℕ) (wires : List ℕ) (one other : List Knowledge) → length one ≡ length other →
    ((place : ℕ) (first second : Knowledge) → slice_get one place ≡ Some first → slice_get other place ≡ Some second → first.frontier ≤ second.frontier) →
    least_or none (map (λ (known : Knowledge). known.frontier) (seen_pins wires one))
    ≤ least_or none (map (λ (known : Knowledge). known.frontier) (seen_pins wires other))
safe-more none [] one other e each = omega arith
safe-more none (wire ∷ wires) [] [] e each = omega arith
safe-more none (wire ∷ wires) [] (second ∷ other) e each = absurd (omega arith)
safe-more none (wire ∷ wires) (first ∷ one) [] e each = absurd (omega arith)
safe-more none (wire ∷ wires) (first ∷ one) (second ∷ other) e each =
    let here = each 0 first second refl refl in
    least-more-known (first.frontier + wire) (second.frontier + wire) wires one other (omega (arith, here)) (omega arith)
    (λ place a b x y. each (suc place) a b x y)

module _ (net : Net) (end from farther : ℕ) (one other : List Knowledge) (clock : HasClock net.part net.timing) (pins : length one ≡ length other)
    (ahead : from ≤ farther) (last : farther ≤ end)
    (frontiers : (place : ℕ) (first second : Knowledge) → slice_get one place ≡ Some first → slice_get other place ≡ Some second →
    first.frontier ≤ second.frontier)
    (asked : (tick at : ℕ) → farther ≤ tick → tick < end → asked_tick net tick ≡ Some at → farther ≤ at + net.timing.delay)
    (refines : (place wire at : ℕ) (first second : Knowledge) → slice_get net.wires place ≡ Some wire → slice_get one place ≡ Some first →
    slice_get other place ≡ Some second → farther ≤ at + net.timing.delay →
    (value_at (as_known (seen wire first)) at ≡ Unknown) ⊎ (value_at (as_known (seen wire first)) at ≡ value_at (as_known (seen wire second)) at)) where
  abbrev low : ℕ
  low = least_or end (map (λ (known : Knowledge). known.frontier) (seen_pins net.wires one))

  abbrev high : ℕ
  high = least_or end (map (λ (known : Knowledge). known.frontier) (seen_pins net.wires other))

  reach-more : reach net end from (least_or end (map (λ (known : Knowledge). known.frontier) (seen_pins net.wires one)))
      (signals_of (seen_pins net.wires one))
      ≤ reach net end farther (least_or end (map (λ (known : Knowledge). known.frontier) (seen_pins net.wires other)))
      (signals_of (seen_pins net.wires other))
  reach-more = go net.part refl asked
    where
      sure : frontier_of net end low ≤ frontier_of net end high
      sure = frontier-mono net end low high clock (safe-more end net.wires one other pins frontiers)

      go : (part : Part) → net.part ≡ part →
          ((tick at : ℕ) → farther ≤ tick → tick < end → asked_of_part part net.timing tick ≡ Some at → farther ≤ at + net.timing.delay) →
          reach_of_part part (equation_of_part part net (signals_of (seen_pins net.wires one))) end from (frontier_of net end low)
          ≤ reach_of_part part (equation_of_part part net (signals_of (seen_pins net.wires other))) end farther (frontier_of net end high)
      go Input is asks = sure
      go (Gate kind) is asks =
          reach-mono (equation_of_part (Gate kind) net (signals_of (seen_pins net.wires one)))
          (equation_of_part (Gate kind) net (signals_of (seen_pins net.wires other)))
          (Gate kind) end from farther (frontier_of net end low) (frontier_of net end high) ahead last sure (frontier-end net end high)
          (λ tick after before known unknown. known
          (settled kind net (signals_of (seen_pins net.wires one)) (signals_of (seen_pins net.wires other)) tick
          (λ at asks_at. refines_more net.wires one other at pins
          (λ place wire first second a b c. refines place wire at first second a b c (asks tick at after before asks_at))) known
          ∙ unknown))
      go Flop is asks = sure

-- where something was received there is a pin
source_of : (pins : List ℕ) (received : List Knowledge) (place : ℕ) (known : Knowledge) → slice_get received place ≡ Some known →
    length pins ≡ length received → (source : ℕ) × (slice_get pins place ≡ Some source)
source_of pins [] place known at long = cc
source_of [] (first ∷ received) place known at long = absurd (omega arith)
source_of (pin ∷ pins) (first ∷ received) zero known at long = (pin, refl)
source_of (pin ∷ pins) (first ∷ received) (suc place) known at long = source_of pins received place known at (omega arith)

-- of two processes of one net that know the truth, that which knows more is reckoned at least as far
pub next-mono : (signals : ℕ → ℕ → Value) (number : ℕ) (process farther : ProcessState) → Meets signals number process.net →
    KnowsTruth signals number process → Meets signals number farther.net → KnowsTruth signals number farther →
    process.net ≡ farther.net → process.end ≡ farther.end → process.known.frontier ≤ farther.known.frontier →
    ((place source : ℕ) (first second : Knowledge) → slice_get farther.net.pins place ≡ Some source →
    slice_get process.received place ≡ Some first → slice_get farther.received place ≡ Some second → first.frontier ≤ second.frontier) →
    next_frontier process ≤ next_frontier farther
next-mono signals number process farther meets knows meets_farther knows_farther net end ahead frontiers =
    subst (λ n. n ≤ next_frontier farther) (sym same)
    (reach-more farther.net farther.end process.known.frontier farther.known.frontier process.received farther.received
    meets_farther.timed.timing.clock (knows.pins ∙ ap (λ (n : Net). length n.pins) net ∙ sym knows_farther.pins) ahead
    (let low = knows_farther.ahead in let to = next-end farther in omega (arith, low, to)) rises knows_farther.asked refines)
  where
    same : next_frontier process
        ≡ reach farther.net farther.end process.known.frontier
        (least_or farther.end (map (λ (known : Knowledge). known.frontier) (seen_pins farther.net.wires process.received)))
        (signals_of (seen_pins farther.net.wires process.received))
    same = λ i.
        reach (net i) (end i) process.known.frontier
        (least_or (end i) (map (λ (known : Knowledge). known.frontier) (seen_pins (net i).wires process.received)))
        (signals_of (seen_pins (net i).wires process.received))

    source : (place : ℕ) (known : Knowledge) → slice_get farther.received place ≡ Some known →
        (s : ℕ) × (slice_get farther.net.pins place ≡ Some s)
    source place known at = source_of farther.net.pins farther.received place known at (sym knows_farther.pins)

    rises : (place : ℕ) (first second : Knowledge) → slice_get process.received place ≡ Some first → slice_get farther.received place ≡ Some second →
        first.frontier ≤ second.frontier
    rises place first second a b = let from = source place second b in frontiers place from.0 first second from.1 a b

    refines : (place wire at : ℕ) (first second : Knowledge) → slice_get farther.net.wires place ≡ Some wire →
        slice_get process.received place ≡ Some first → slice_get farther.received place ≡ Some second →
        farther.known.frontier ≤ at + farther.net.timing.delay →
        (value_at (as_known (seen wire first)) at ≡ Unknown)
        ⊎ (value_at (as_known (seen wire first)) at ≡ value_at (as_known (seen wire second)) at)
    refines place wire at first second at_wire at_one at_other asks = go (cases_lt at (first.frontier + wire))
      where
        from : (s : ℕ) × (slice_get farther.net.pins place ≡ Some s)
        from = source place second at_other

        delay : process.net.timing.delay ≡ farther.net.timing.delay
        delay = ap (λ (n : Net). n.timing.delay) net

        go : (at < first.frontier + wire) ⊎ (first.frontier + wire ≤ at) →
            (value_at (as_known (seen wire first)) at ≡ Unknown)
            ⊎ (value_at (as_known (seen wire first)) at ≡ value_at (as_known (seen wire second)) at)
        go (inl below) =
            let more = rises place first second at_one at_other in
            inr (pin_true signals number process meets knows place wire from.0 first at
            (ap (λ (n : Net). slice_get n.wires place) net ∙ at_wire) (ap (λ (n : Net). slice_get n.pins place) net ∙ from.1) at_one
            (omega (arith, ahead, asks, delay)) below
            ∙ sym (pin_true signals number farther meets_farther knows_farther place wire from.0 second at at_wire from.1 at_other asks
            (omega (arith, below, more))))
        go (inr past) = inl (shows_unknown (seen wire first) at past)
