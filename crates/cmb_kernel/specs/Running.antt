-- What holds of a kernel that hasn't failed.
use Rattle.std.specs.Prelude.{◌≡◌, ℕ, ◌+◌, ◌≤◌, List, map, length, sum_by}
use Rattle.timing_text.specs.Ranges.{most_ticks}
use Rattle.design.specs.Design.{DesignView, IsDesign}
use Rattle.design.specs.Pins.{sources_of}
use Rattle.cmb_channels.specs.declared.message.Message.{Message}
use Rattle.gate_process.specs.Step.{ProcessState, ProcessView, running}
use Rattle.cmb_kernel.specs.declared.counts.Counts.{Counts}
use Rattle.cmb_kernel.specs.State.{State}
use Rattle.cmb_kernel.specs.Sound.{IsSound}

-- the state of the run that a kernel's parts make
abbrev pub state_of : List ProcessView → List (List Message) → Counts → State
state_of processes lists counts =
    record { processes = map (λ (process : ProcessView). process.state) processes; lists = lists; counts = counts }

-- the parts belong to the design, no process has failed, and the state is sound
pub record IsRunning (design : DesignView) (end : ℕ) (processes : List ProcessView) (sources : List ℕ) (nets : ℕ) (state : State) : Type 0 where
  pub well_formed : IsDesign design
  pub within : end ≤ most_ticks + 1
  pub all_run : processes ≡ map running state.processes
  pub feeds : sources ≡ sources_of design.circuit
  pub all_nets : nets ≡ length design.circuit
  -- each message raised the frontier of its net
  pub messages : state.counts.changes + state.counts.nulls ≤ sum_by (λ (process : ProcessState). process.known.frontier) state.processes
  pub sound : IsSound design.circuit end state
