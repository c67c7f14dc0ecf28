-- A process in two parts: its output, and what its pins have received. So the processes of a design are two lists.
use Rattle.std.specs.Prelude.{◌≡◌, ℕ, max, Bool, false, List, [], ◌∷◌, length, map, take, drop, slice_get, Some}
use Rattle.design.specs.Circuit.{Net, Circuit, pin_count}
use Rattle.gate_process.specs.Knowledge.{Knowledge, nothing_known, forgetting}
use Rattle.gate_process.specs.Step.{ProcessState, ProcessView}
use Rattle.gate_process.specs.Truth.{IsProcess}

-- what a process has beside what its pins have received: its net, how far it computes, what is known of the net from its
-- floor on, and whether it ran out of memory
pub record OutputView : Type 0 where
  pub failed : Bool
  pub net : Net
  pub end : ℕ
  pub floor : ℕ
  pub known : Knowledge

-- the state of the process of these parts
abbrev pub state_of : OutputView → List Knowledge → ProcessState
state_of output received =
    record { net = output.net; end = output.end; floor = output.floor; known = output.known; received = received }

-- and its view
abbrev pub process_of : OutputView → List Knowledge → ProcessView
process_of output received = record { failed = output.failed; state = state_of output received }

-- the output of a process that knows nothing yet
abbrev pub started_output : ℕ → Net → OutputView
started_output end net = record { failed = false; net = net; end = end; floor = 0; known = nothing_known }

-- the output after its changes before a tick were taken out: it is known from there on, or from its old floor if that is later
abbrev pub drained_output : ℕ → OutputView → OutputView
drained_output bound output =
    let floor = max output.floor bound in record output { floor = floor; known = forgetting floor output.known }

-- the nets of some outputs
abbrev pub nets_of : List OutputView → Circuit
nets_of outputs = map (λ (output : OutputView). output.net) outputs

-- the processes of these outputs, where what all of their pins have received is one list, net by net
abbrev pub processes_of : List OutputView → List Knowledge → List ProcessView
processes_of [] received = []
processes_of (output ∷ outputs) received =
    process_of output (take (length output.net.pins) received) ∷ processes_of outputs (drop (length output.net.pins) received)

-- the processes of a circuit in two lists
pub record AreStored (circuit : Circuit) (outputs : List OutputView) (received : List Knowledge) : Type 0 where
  pub nets : nets_of outputs ≡ circuit
  pub pins : length received ≡ pin_count circuit
  pub processes : (net : ℕ) (process : ProcessView) → slice_get (processes_of outputs received) net ≡ Some process →
      process.failed ≡ false → IsProcess process.state
