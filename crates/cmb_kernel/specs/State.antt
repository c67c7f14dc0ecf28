use Rattle.std.specs.Prelude.{◌≡◌, ℕ, ◌+◌, ◌-◌, ◌/◌, ◌==◌, min, Bool, false, List, [], map, replicate, All, slice_get, slice_index_or}
use Rattle.std.specs.List.{list_all}
use Rattle.std.specs.Option.{option_map_or}
use Rattle.logic3.specs.Wave.{Wave}
use Rattle.design.specs.Circuit.{Net, Circuit, pin_count}
use Rattle.design.specs.Pins.{net_of_pin, place_of_pin}
use Rattle.cmb_channels.specs.declared.message.Message.{Message}
use Rattle.gate_process.specs.Knowledge.{Knowledge}
use Rattle.gate_process.specs.Step.{ProcessState, started_process, least, own_delay}
use Rattle.cmb_kernel.specs.declared.counts.Counts.{Counts}

-- the state of a run: each net's process, the messages on the way to each pin, and the counts
pub record State : Type 0 where
  pub processes : List ProcessState
  pub lists : List (List Message)
  pub counts : Counts

-- the state before any event
abbrev pub started : Circuit → ℕ → State
started circuit end = record {
  processes = map (started_process end) circuit;
  lists = replicate (pin_count circuit) [];
  counts = record { events = 0; changes = 0; nulls = 0; rounds = 0 };
}

-- the circuit that runs
abbrev pub nets_of : State → Circuit
nets_of state = map (λ (process : ProcessState). process.net) state.processes

-- the frontier of a net
abbrev pub frontier_at : State → ℕ → ℕ
frontier_at state net = slice_index_or (map (λ (process : ProcessState). process.known.frontier) state.processes) net 0

-- the tick from which on a net's waveform is kept: its changes before that tick were taken out
abbrev pub floor_at : State → ℕ → ℕ
floor_at state net = slice_index_or (map (λ (process : ProcessState). process.floor) state.processes) net 0

-- no changes of a net were taken out
abbrev pub IsUndrained : State → Type 0
IsUndrained state = (net : ℕ) → floor_at state net ≡ 0

-- how far a process knows the source of its pin at a place
abbrev pub received_of : ProcessState → ℕ → ℕ
received_of process place = slice_index_or (map (λ (known : Knowledge). known.frontier) process.received) place 0

-- how far a pin knows its source
abbrev pub received_at : State → ℕ → ℕ
received_at state pin =
    option_map_or (λ (process : ProcessState). received_of process (place_of_pin (nets_of state) pin))
    (slice_get state.processes (net_of_pin (nets_of state) pin)) 0

-- the messages that wait at a pin
abbrev pub waiting_at : State → ℕ → List Message
waiting_at state pin = slice_index_or state.lists pin []

-- the least frontier of all nets
abbrev pub least_frontier : ℕ → State → ℕ
least_frontier end state = least end (map (λ (process : ProcessState). process.known.frontier) state.processes)

-- the least delay of a gate or flip-flop, or the end if there is none
abbrev pub least_delay : ℕ → Circuit → ℕ
least_delay end circuit = least end (map (λ (net : Net). own_delay net.part end net.timing.delay) circuit)

-- the least delay past the least frontier, or the end if that is earlier
abbrev pub past_least : ℕ → Circuit → State → ℕ
past_least end circuit state = min end (least_frontier end state + least_delay end circuit)

-- this number of rounds is enough: each raises the least frontier by at least the least delay, or to the end
abbrev pub most_rounds : ℕ → Circuit → ℕ
most_rounds end circuit = (end + (least_delay end circuit - 1)) / least_delay end circuit

-- each net is known to the end
abbrev pub IsComplete : State → Type 0
IsComplete state = All (λ (process : ProcessState). process.known.frontier ≡ process.end) state.processes

abbrev pub is_complete : State → Bool
is_complete state = list_all (λ (process : ProcessState). process.known.frontier == process.end) state.processes

-- the waveforms of all nets
abbrev pub waves_in : State → List Wave
waves_in state = map (λ (process : ProcessState). process.known.wave) state.processes

-- the view of a kernel
pub record KernelView : Type 0 where
  pub circuit : Circuit
  pub end : ℕ
  pub failed : Bool
  pub state : State

-- a kernel before any event
abbrev pub fresh : Circuit → ℕ → KernelView
fresh circuit end = record { circuit = circuit; end = end; failed = false; state = started circuit end }
