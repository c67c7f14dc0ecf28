-- How far a process can reckon.
use Rattle.std.proofs.Common.{◌≡◌, ℕ, zero, suc, ◌+◌, ◌<◌, ◌≤◌, min, List, [], ◌∷◌, ◌++◌, Option, None, Some, slice_get, refl, ap, sym, ◌∙◌, arith}
use Rattle.std.specs.Option.{option_map_or}
use Rattle.std.proofs.lemmas.Option.{none-some, same_Some}
use Rattle.netlist.specs.declared.part.Part.{Part}
use Rattle.netlist.specs.declared.part.Part.TheVariants.{Input, Gate, Flop}
use Rattle.timing_text.specs.Ranges.{HasClock}
use Rattle.design.specs.Circuit.{Net}
use Rattle.design.specs.Samples.{asked_tick, asker_of_part, first_asker}
use Rattle.design.proofs.CallerLemmas.{asked-from, asker-late, asker-mono, asker-none}
use Rattle.gate_process.specs.Step.{least, least_or, frontier_of, own_delay}

pub least-bound : (bound : ℕ) (xs : List ℕ) → least bound xs ≤ bound
least-bound bound [] = omega arith
least-bound bound (x ∷ xs) = let h = least-bound (min bound x) xs in omega arith

pub least-more : (bound : ℕ) (xs : List ℕ) (x : ℕ) → least bound (xs ++ x ∷ []) ≡ min (least bound xs) x
least-more bound [] x = refl
least-more bound (y ∷ xs) x = least-more (min bound y) xs x

pub least-mono : (low high : ℕ) (xs : List ℕ) → low ≤ high → least low xs ≤ least high xs
least-mono low high [] h = h
least-mono low high (x ∷ xs) h = least-mono (min low x) (min high x) xs (omega arith)

pub least-le : (bound : ℕ) (xs : List ℕ) (place x : ℕ) → slice_get xs place ≡ Some x → least bound xs ≤ x
least-le bound [] place x e = cc
least-le bound (y ∷ xs) zero x e =
    let h = least-bound (min bound y) xs in
    let same : y ≡ x = cc in omega arith
least-le bound (y ∷ xs) (suc place) x e = least-le (min bound y) xs place x e

pub least_greatest : (bound : ℕ) (xs : List ℕ) (low : ℕ) → low ≤ bound →
    ((place x : ℕ) → slice_get xs place ≡ Some x → low ≤ x) → low ≤ least bound xs
least_greatest bound [] low h each = h
least_greatest bound (x ∷ xs) low h each =
    let here = each 0 x refl in
    least_greatest (min bound x) xs low (omega arith) (λ place y e. each (suc place) y e)

-- ---- the least of some numbers, and of none what stands for it

pub least_or-le : (none : ℕ) (xs : List ℕ) (place x : ℕ) → slice_get xs place ≡ Some x → least_or none xs ≤ x
least_or-le none [] place x e = cc
least_or-le none (y ∷ xs) zero x e =
    let h = least-bound y xs in
    let same : y ≡ x = cc in omega arith
least_or-le none (y ∷ xs) (suc place) x e = least-le y xs place x e

to_end : (end : ℕ) (first : Option ℕ) → option_map_or (min end) first end ≤ end
to_end end None = omega arith
to_end end (Some first) = omega arith

pub frontier-end : (net : Net) (end safe : ℕ) → frontier_of net end safe ≤ end
frontier-end net end safe = to_end end (first_asker net safe)

-- an input waits for nothing
pub input_frontier : (net : Net) (end safe : ℕ) → net.part ≡ Input → frontier_of net end safe ≡ end
input_frontier net end safe input = ap (λ part. option_map_or (min end) (asker_of_part part net.timing safe) end) input

pub frontier-mono : (net : Net) (end low high : ℕ) → HasClock net.part net.timing → low ≤ high → frontier_of net end low ≤ frontier_of net end high
frontier-mono net end low high clock h = go (first_asker net low) refl
  where
    go : (first : Option ℕ) → first_asker net low ≡ first → option_map_or (min end) first end ≤ frontier_of net end high
    go None none = rw (asker-none net.timing net.part low high none) (omega arith)
    go (Some first) begins =
        let next = asker-mono net.timing net.part clock low high first begins h in
        rw next.1 (farther end first next.0 next.2)
      where
        farther : (end a b : ℕ) → a ≤ b → min end a ≤ min end b
        farther end a b h = omega arith

-- no later value asks for a tick of the pins that is more than the delay before the frontier
pub asked-kept : (net : Net) (end safe tick asked : ℕ) → HasClock net.part net.timing → frontier_of net end safe ≤ tick → tick < end →
    asked_tick net tick ≡ Some asked → frontier_of net end safe ≤ asked + net.timing.delay
asked-kept net end safe tick asked clock after before is = go (first_asker net safe) refl after
  where
    go : (first : Option ℕ) → first_asker net safe ≡ first → option_map_or (min end) first end ≤ tick →
        option_map_or (min end) first end ≤ asked + net.timing.delay
    go None none late = absurd (omega (arith, late, before))
    go (Some first) begins late =
        let from = asked-from net.timing net.part clock safe first tick begins (omega (arith, late, before)) in
        let same = same_Some from.0 asked (sym from.1 ∙ is) in
        omega (arith, from.2, same)

-- where all pins are known up to a tick, a net can be reckoned at least its delay farther
pub frontier-farther : (net : Net) (end safe low delay : ℕ) → HasClock net.part net.timing → low ≤ safe → delay ≤ own_delay net.part end net.timing.delay →
    min end (low + delay) ≤ frontier_of net end safe
frontier-farther net end safe low delay clock h k = go (first_asker net safe) refl
  where
    own : (part : Part) (first : ℕ) → asker_of_part part net.timing safe ≡ Some first → own_delay part end net.timing.delay ≡ net.timing.delay
    own Input first begins = absurd (none-some first begins)
    own (Gate kind) first begins = refl
    own Flop first begins = refl

    go : (first : Option ℕ) → first_asker net safe ≡ first → min end (low + delay) ≤ option_map_or (min end) first end
    go None none = omega arith
    go (Some first) begins =
        farther end low delay first
        (omega (arith, h, k, own net.part first begins, asker-late net.timing net.part clock safe first begins))
      where
        farther : (end low delay first : ℕ) → low + delay ≤ first → min end (low + delay) ≤ min end first
        farther end low delay first h = omega arith
