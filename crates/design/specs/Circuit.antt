-- A circuit: nets with their timing and stimuli.
use Rattle.std.specs.Prelude.{ℕ, ◌<◌, List, length, sum_by, All}
use Rattle.logic3.specs.declared.change.Change.{Change}
use Rattle.netlist.specs.declared.part.Part.{Part}
use Rattle.timing_text.specs.declared.timing.Timing.{Timing}
use Rattle.timing_text.specs.Ranges.{HasTiming, HasWires, HasStimuli}

-- a net of a circuit: what drives it, the wire delay of each pin, and when it reads its pins
pub record Net : Type 0 where
  pub name : List ℕ
  pub part : Part
  pub pins : List ℕ
  pub wires : List ℕ
  pub timing : Timing
  pub stimuli : List Change

abbrev pub Circuit : Type 0
Circuit = List Net

-- a gate or a flip-flop has a delay of at least one tick, an input none, and only flip-flops have a clock; each pin has a wire
-- delay; only inputs have stimuli, and their ticks rise strictly
pub record IsTimed (net : Net) : Type 0 where
  pub timing : HasTiming net.part net.timing
  pub wires : HasWires (length net.pins) net.wires
  pub stimuli : HasStimuli net.part net.stimuli

-- each pin names a net of the circuit, and only inputs have delay 0
pub record IsCircuit (circuit : Circuit) : Type 0 where
  pub pins : All (λ (net : Net). All (λ pin. pin < length circuit) net.pins) circuit
  pub timed : All IsTimed circuit

-- the pins of all nets
abbrev pub pin_count : Circuit → ℕ
pin_count circuit = sum_by (λ (net : Net). length net.pins) circuit
