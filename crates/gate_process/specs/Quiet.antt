-- Processes that an advance leaves unchanged.
use Rattle.std.specs.Prelude.{◌≡◌, ℕ, ◌≤◌, Bool, true, false, List, All, length, slice_get, Some}
use Rattle.gate_process.specs.Knowledge.{Knowledge}
use Rattle.gate_process.specs.Step.{ProcessState, ProcessView, advanced}

-- an advance changes nothing, so it sends nothing either
abbrev pub IsQuiet : ProcessState → Type 0
IsQuiet process = advanced process ≡ process

-- each pin of a process is known up to a tick of its source
abbrev pub KnowsTo : ℕ → ProcessState → Type 0
KnowsTo tick process = All (λ (known : Knowledge). tick ≤ known.frontier) process.received

-- a flag for each process; the flag of a process that isn't quiet is false
pub record AreQuiet (processes : List ProcessView) (quiet : List Bool) : Type 0 where
  pub flags : length quiet ≡ length processes
  pub stays : (net : ℕ) (process : ProcessView) → slice_get processes net ≡ Some process → slice_get quiet net ≡ Some true →
      process.failed ≡ false → IsQuiet process.state

-- a tick for each process, up to which the pins of one that is flagged as quiet are known
pub record AreHeard (processes : List ProcessView) (quiet : List Bool) (heard : List ℕ) : Type 0 where
  pub ticks : length heard ≡ length processes
  pub knows : (net : ℕ) (process : ProcessView) (tick : ℕ) → slice_get processes net ≡ Some process → slice_get quiet net ≡ Some true →
      slice_get heard net ≡ Some tick → process.failed ≡ false → KnowsTo tick process.state

-- the processes that are flagged as quiet are, and their pins are known up to these ticks
pub record AreAtRest (processes : List ProcessView) (quiet : List Bool) (heard : List ℕ) : Type 0 where
  pub flagged : AreQuiet processes quiet
  pub pins : AreHeard processes quiet heard
