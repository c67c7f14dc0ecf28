-- Rounds of a ring counter and of an inverter, by computation.
use Rattle.std.proofs.Common.{◌≡◌, ℕ, List, [], ◌∷◌, refl, map, Option, Some, slice_get}
use Rattle.std.specs.Option.{option_map, option_map_or}
use Rattle.logic3.specs.declared.value.Value.{Value}
use Rattle.logic3.specs.declared.value.Value.TheVariants.{Zero, One, Unknown}
use Rattle.logic3.specs.declared.gates.GateKind.TheVariants.{Nand, Not}
use Rattle.logic3.specs.declared.change.Change.{Change}
use Rattle.logic3.specs.Wave.{Wave}
use Rattle.netlist.specs.declared.part.Part.{Part}
use Rattle.netlist.specs.declared.part.Part.TheVariants.{Input, Gate, Flop}
use Rattle.design.specs.Circuit.{Net, Circuit}
use Rattle.gate_process.specs.Step.{ProcessState, drained_changes}
use Rattle.cmb_kernel.specs.State.{State, started, least_frontier, most_rounds}
use Rattle.cmb_kernel.specs.Step.{after_drain, round_of, rounds}

-- a net without stimuli, with wires of no ticks and the period 3
abbrev net_of : Part → List ℕ → ℕ → Net
net_of part pins delay = record {
  name = [];
  part = part;
  pins = pins;
  wires = map (λ pin. 0) pins;
  timing = record { delay = delay; period = 3; phase = 0; initial = Unknown };
  stimuli = [];
}

abbrev change : ℕ → Value → Change
change tick value = record { tick = tick; value = value }

-- ---- a flip-flop and an inverter that feed one another: the least frontier after each round

ring_counter : Circuit
ring_counter = net_of Flop (1 ∷ []) 1 ∷ net_of (Gate Not) (0 ∷ []) 1 ∷ []

ring_counter-least : map (λ count. least_frontier 11 (rounds count (started ring_counter 11))) (1 ∷ 2 ∷ 3 ∷ 4 ∷ 5 ∷ 6 ∷ 7 ∷ [])
    ≡ 1 ∷ 4 ∷ 5 ∷ 7 ∷ 8 ∷ 10 ∷ 11 ∷ []
unfolding ring_counter
ring_counter-least = refl

-- ---- how many rounds are enough: for an oscillator of delay 2 up to tick 12, an inverter of itself up to tick 3, and an input up to tick 5

oscillator : Circuit
oscillator = net_of Input [] 0 ∷ net_of (Gate Nand) (0 ∷ 1 ∷ []) 2 ∷ []

oscillator-rounds : most_rounds 13 oscillator ≡ 7
unfolding oscillator
oscillator-rounds = refl

self_inverter-rounds : most_rounds 4 (net_of (Gate Not) (0 ∷ []) 1 ∷ []) ≡ 4
self_inverter-rounds = refl

input-rounds : most_rounds 6 (net_of Input [] 0 ∷ []) ≡ 1
input-rounds = refl

-- ---- an input and its inverter, whose changes are taken out after each of two rounds

inverter : Circuit
inverter =
    record (net_of Input [] 0) { stimuli = change 0 Zero ∷ change 3 One ∷ [] }
    ∷ net_of (Gate Not) (0 ∷ []) 1
    ∷ []

abbrev changes_at : State → ℕ → ℕ → List Change
changes_at state net bound = option_map_or (drained_changes bound) (slice_get state.processes net) []

abbrev wave_at : State → ℕ → Option Wave
wave_at state net = option_map (λ (process : ProcessState). process.known.wave) (slice_get state.processes net)

drained_state : State
drained_state = after_drain (round_of (started inverter 6)) 0 1

drains-first : (least_frontier 6 (round_of (started inverter 6)) ≡ 1)
    × (changes_at (round_of (started inverter 6)) 0 1 ≡ change 0 Zero ∷ [])
    × (changes_at (round_of (started inverter 6)) 1 1 ≡ [])
unfolding inverter
drains-first = (refl, refl, refl)

drains-second : (least_frontier 6 (round_of drained_state) ≡ 6) × (changes_at (round_of drained_state) 0 6 ≡ change 3 One ∷ [])
    × (changes_at (round_of drained_state) 1 6 ≡ change 1 One ∷ change 4 Zero ∷ [])
unfolding drained_state inverter
drains-second = (refl, refl, refl)

drains-wave : wave_at (after_drain (round_of drained_state) 0 6) 0 ≡ Some (record { before = One; changes = [] })
unfolding drained_state inverter
drains-wave = refl

-- ---- the same where the wire to the inverter takes two ticks: it is known so much farther at first, and changes so much later

wired_inverter : Circuit
wired_inverter =
    record (net_of Input [] 0) { stimuli = change 0 Zero ∷ change 3 One ∷ [] }
    ∷ record (net_of (Gate Not) (0 ∷ []) 1) { wires = 2 ∷ [] }
    ∷ []

wired-rounds : (least_frontier 9 (round_of (started wired_inverter 9)) ≡ 3)
    × (wave_at (rounds 2 (started wired_inverter 9)) 1 ≡ Some (record { before = Unknown; changes = change 3 One ∷ change 6 Zero ∷ [] }))
unfolding wired_inverter
wired-rounds = (refl, refl)
