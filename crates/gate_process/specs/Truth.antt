-- What is true of a process, and of one that receives true messages.
use Rattle.std.specs.Prelude.{◌≡◌, ◌≢◌, ℕ, ◌+◌, ◌<◌, ◌≤◌, true, List, [], ◌∷◌, length, slice_get, slice_index_or, Some}
use Rattle.logic3.specs.declared.value.Value.{Value}
use Rattle.logic3.specs.declared.value.Value.TheVariants.{Unknown}
use Rattle.logic3.specs.declared.change.Change.{Change}
use Rattle.netlist.specs.declared.part.Part.TheVariants.{Input}
use Rattle.netlist.specs.Part.{takes_pins}
use Rattle.design.specs.Circuit.{Net, Circuit, IsTimed}
use Rattle.timing_text.specs.Ranges.{most_ticks}
use Rattle.design.specs.Samples.{asked_tick}
use Rattle.design.specs.Equations.{equation, pin_signals}
use Rattle.cmb_channels.specs.declared.message.Message.{Message}
use Rattle.gate_process.specs.Knowledge.{Knowledge, knowledge_of, Continues, forgetting, Tells}
use Rattle.gate_process.specs.Step.{ProcessState, pin_frontier, pin_last, next_frontier, kept_from, kept, heard}

-- a signal of a family meets a net's equation, over the others
pub record Meets (signals : ℕ → ℕ → Value) (number : ℕ) (net : Net) : Type 0 where
  pub timed : IsTimed net
  pub solves : (tick : ℕ) → signals number tick ≡ equation net (pin_signals signals net.pins net.wires) tick

-- what the process of this net and its pins know is true of these signals, one for each net
pub record KnowsTruth (signals : ℕ → ℕ → Value) (number : ℕ) (process : ProcessState) : Type 0 where
  pub pins : length process.received ≡ length process.net.pins
  pub floor : process.floor ≤ process.known.frontier
  pub ahead : process.known.frontier ≤ next_frontier process
  -- no value from the frontier on asks for a tick of the pins that is more than the delay before it: their sources may have been forgotten there
  pub asked : (tick asked : ℕ) → process.known.frontier ≤ tick → tick < process.end → asked_tick process.net tick ≡ Some asked →
      process.known.frontier ≤ asked + process.net.timing.delay
  -- the net is known from its floor up to its frontier
  pub known : process.known ≡ knowledge_of (signals number) process.floor process.known.frontier
  -- the source of each pin is known at the kept ticks below its received frontier
  pub heard : (place source : ℕ) (received : Knowledge) → slice_get process.net.pins place ≡ Some source →
      slice_get process.received place ≡ Some received →
      received ≡ knowledge_of (signals source) (kept_from process place received.frontier) received.frontier

-- the signals meet the equation of the process's net, and it knows the truth of them
pub record IsTruthful (signals : ℕ → ℕ → Value) (number : ℕ) (process : ProcessState) : Type 0 where
  pub meets : Meets signals number process.net
  pub knows : KnowsTruth signals number process

-- this holds of each truthful process: of the signals, the number of its net, and itself
abbrev pub ForTruthful : ((ℕ → ℕ → Value) → ℕ → ProcessState → Type 0) → Type 0
ForTruthful P = (signals : ℕ → ℕ → Value) (number : ℕ) (process : ProcessState) → IsTruthful signals number process → P signals number process

-- messages come to a truthful process at a place: they report the source of its pin, from what was received so far up to a tick
pub record HearsTruth (signals : ℕ → ℕ → Value) (number : ℕ) (process : ProcessState) (place to : ℕ) (messages : List Message) : Type 0 where
  pub truthful : IsTruthful signals number process
  pub source : ℕ
  pub received : Knowledge
  pub pin : slice_get process.net.pins place ≡ Some source
  pub so_far : slice_get process.received place ≡ Some received
  pub tells : Tells (signals source) received.frontier to messages

-- this holds of each process and the first of the messages that come to it: of the signals, the number of its net, itself, the
-- place and the message
abbrev pub ForHearers : ((ℕ → ℕ → Value) → ℕ → ProcessState → ℕ → Message → Type 0) → Type 0
ForHearers P =
    (signals : ℕ → ℕ → Value) (number : ℕ) (process : ProcessState) (place to : ℕ) (message : Message) (rest : List Message) →
    HearsTruth signals number process place to (message ∷ rest) → P signals number process place message

-- the net with a number; past the last net, the result doesn't matter
abbrev pub net_at : Circuit → ℕ → Net
net_at circuit number = slice_index_or circuit number (record {
  name = [];
  part = Input;
  pins = [];
  wires = [];
  timing = record { delay = 0; period = 0; phase = 0; initial = Unknown };
  stimuli = [];
})

-- a net with its timing in the ranges, and as many pins as its part takes
pub record IsNet (net : Net) : Type 0 where
  pub timed : IsTimed net
  pub arity : takes_pins net.part (length net.pins) ≡ true

-- a process whose messages raise frontiers, whatever they report: it never falls back, and keeps no more than it must
pub record IsProcess (process : ProcessState) : Type 0 where
  pub timed : IsTimed process.net
  pub arity : takes_pins process.net.part (length process.net.pins) ≡ true
  pub end : process.end ≤ most_ticks + 1
  pub pins : length process.received ≡ length process.net.pins
  pub floor : process.floor ≤ process.known.frontier
  pub ahead : process.known.frontier ≤ next_frontier process
  pub asked : (tick asked : ℕ) → process.known.frontier ≤ tick → tick < process.end → asked_tick process.net tick ≡ Some asked →
      process.known.frontier ≤ asked + process.net.timing.delay
  -- nothing is known of the net before its floor
  pub known : process.known ≡ forgetting process.floor process.known
  pub heard : (place : ℕ) (received : Knowledge) → slice_get process.received place ≡ Some received →
      received ≡ kept process place received

-- the process can receive this message at a place: it raises what the pin knows, continues its waveform, and isn't past the end
abbrev pub CanHear : ProcessState → ℕ → Message → Type 0
CanHear process place message = (known : Knowledge) → slice_get process.received place ≡ Some known → Continues process.end known message

-- the process can receive these messages at a place, one after another
abbrev pub CanHearAll : ProcessState → ℕ → List Message → Type 0
CanHearAll process place [] = Unit {0}
CanHearAll process place (message ∷ messages) = CanHear process place message × CanHearAll (heard place message process) place messages

-- a change that continues what the pin at a place has received: later than all that is known, up to the end, and to another value
pub record GoesOn (process : ProcessState) (place frontier : ℕ) (last : Value) (change : Change) : Type 0 where
  pub frontier_is : pin_frontier process place ≡ Some frontier
  pub last_is : pin_last process place ≡ Some last
  pub later : frontier ≤ change.tick
  pub within : change.tick < process.end
  pub differs : change.value ≢ last
