-- What is true of every state that a run reaches.
use Rattle.std.specs.Prelude.{◌≡◌, ℕ, ◌+◌, ◌<◌, ◌≤◌, List, length, map, slice_get, Some}
use Rattle.std.specs.List.{range_with_len}
use Rattle.logic3.specs.Wave.{Wave, value_at, wave_of}
use Rattle.design.specs.Circuit.{Circuit, IsCircuit, pin_count}
use Rattle.design.specs.Equations.{value_of}
use Rattle.cmb_channels.specs.declared.message.Message.{Message}
use Rattle.design.specs.Pins.{first_pin}
use Rattle.gate_process.specs.Knowledge.{Knowledge, told_all, Tells}
use Rattle.gate_process.specs.Step.{ProcessState, kept_from}
use Rattle.gate_process.specs.Truth.{KnowsTruth}
use Rattle.cmb_kernel.specs.State.{State, nets_of, frontier_at, floor_at, waiting_at}

-- ---- the nets and pins of a state

-- this holds of each net: of its number, and its process
abbrev pub EachNet : State → (ℕ → ProcessState → Type 0) → Type 0
EachNet state P = (number : ℕ) (process : ProcessState) → slice_get state.processes number ≡ Some process → P number process

-- this holds of each pin: of its net's number, its place there, its source's number, its net's process, and what it received
abbrev pub EachPin : State → (ℕ → ℕ → ℕ → ProcessState → Knowledge → Type 0) → Type 0
EachPin state P =
    (number place source : ℕ) (process : ProcessState) (received : Knowledge) →
    slice_get state.processes number ≡ Some process → slice_get process.net.pins place ≡ Some source →
    slice_get process.received place ≡ Some received → P number place source process received

-- the messages on the way to the pin of a net at a place
abbrev pub coming_to : Circuit → State → ℕ → ℕ → List Message
coming_to circuit state number place = waiting_at state (first_pin circuit number + place)

-- changes of a net can be taken out before a tick that is neither before its floor nor past its frontier
abbrev pub CanDrain : State → ℕ → ℕ → Type 0
CanDrain state net bound =
    (process : ProcessState) → slice_get state.processes net ≡ Some process → (process.floor ≤ bound) × (bound ≤ process.known.frontier)

-- ---- what they know

-- a state of a run of this circuit, up to an end: all that nets and pins know is what the equations give, and what
-- waits at a pin reports its source, from what the pin received up to what the source knows
pub record IsSound (circuit : Circuit) (last : ℕ) (state : State) : Type 0 where
  pub nets : nets_of state ≡ circuit
  pub lists : length state.lists ≡ pin_count circuit
  pub ends : EachNet state (λ number process. process.end ≡ last)
  pub processes : EachNet state (KnowsTruth (value_of circuit))
  pub waiting : EachPin state (λ number place source process received.
      Tells (value_of circuit source) received.frontier (frontier_at state source) (coming_to circuit state number place))

-- this holds of each sound state of a run: of its circuit, its end and itself
abbrev pub ForSound : (Circuit → ℕ → State → Type 0) → Type 0
ForSound P =
    (circuit : Circuit) → IsCircuit circuit → (last : ℕ) (state : State) → IsSound circuit last state → P circuit last state

-- the waveform of a net is what the equations give it, from its floor up to its frontier
pub record KnowsNet (circuit : Circuit) (last number : ℕ) (process : ProcessState) : Type 0 where
  pub wave : process.known.wave ≡ wave_of (value_of circuit number) process.floor process.known.frontier
  pub floor : process.floor ≤ process.known.frontier
  pub within : process.known.frontier ≤ last

-- what the equations give each net, from its floor up to an end
abbrev pub waves_kept : Circuit → ℕ → State → List Wave
waves_kept circuit to state = map (λ net. wave_of (value_of circuit net) (floor_at state net) to) (range_with_len 0 (length circuit))

-- what a pin received, once it takes what waits, has its source's frontier and shows the source's values at the kept ticks
pub record HearsSource (circuit : Circuit) (source reached keep : ℕ) (received : Knowledge) (coming : List Message) : Type 0 where
  pub frontier : (told_all received coming).frontier ≡ reached
  pub values : (tick : ℕ) → keep ≤ tick → tick < reached → value_at (told_all received coming).wave tick ≡ value_of circuit source tick

-- the pin of a net at a place hears its source so, up to where the source is known, at the ticks that it keeps
abbrev pub HearsItsSource : Circuit → State → ℕ → ℕ → ℕ → ProcessState → Knowledge → Type 0
HearsItsSource circuit state number place source process received =
    HearsSource circuit source (frontier_at state source) (kept_from process place received.frontier) received (coming_to circuit state number place)
