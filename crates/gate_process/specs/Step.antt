-- The state of a net's process and its steps.
use Rattle.std.specs.Prelude.{ℕ, zero, suc, Bool, false, ◌+◌, ◌-◌, nat_lt, if◌then◌else◌, min, max, List, [], ◌∷◌, map, take, slice_get, Option, option_map}
use Rattle.std.specs.Option.{option_map_or}
use Rattle.logic3.specs.declared.value.Value.{Value}
use Rattle.logic3.specs.declared.value.Value.TheVariants.{Unknown}
use Rattle.logic3.specs.declared.change.Change.{Change}
use Rattle.logic3.specs.Value.{is_same}
use Rattle.logic3.specs.Wave.{Wave, value_at, last_value, changes_between}
use Rattle.netlist.specs.declared.part.Part.{Part}
use Rattle.netlist.specs.declared.part.Part.TheVariants.{Input, Gate, Flop}
use Rattle.design.specs.Circuit.{Net}
use Rattle.design.specs.Samples.{first_asker, wire_at}
use Rattle.design.specs.Equations.{equation}
use Rattle.cmb_channels.specs.declared.message.Message.{Message}
use Rattle.cmb_channels.specs.Lists.{update}
use Rattle.gate_process.specs.Knowledge.{Knowledge, nothing_known, knowledge_of, seen_pins, as_known, told, wanted, kept_since, forgetting, news_between}

-- the least of these and a bound
abbrev pub least : ℕ → List ℕ → ℕ
least bound [] = bound
least bound (x ∷ xs) = least (min bound x) xs

-- the least of some numbers, or a default if there are none
abbrev pub least_or : ℕ → List ℕ → ℕ
least_or none [] = none
least_or none (x ∷ xs) = least x xs

-- the state of a net's process: its net, how far it computes, and what it knows of its net and of its pins
pub record ProcessState : Type 0 where
  pub net : Net
  pub end : ℕ
  pub floor : ℕ
  pub known : Knowledge
  pub received : List Knowledge

-- the view of a process: its state, and whether an advance ran out of memory
pub record ProcessView : Type 0 where
  pub failed : Bool
  pub state : ProcessState

-- a process that hasn't failed
abbrev pub running : ProcessState → ProcessView
running state = record { failed = false; state = state }

-- a process that knows nothing yet
abbrev pub started_process : ℕ → Net → ProcessState
started_process end net = record {
  net = net;
  end = end;
  floor = 0;
  known = nothing_known;
  received = map (λ (pin : ℕ). nothing_known) net.pins;
}

-- how many ticks are known of the pin at a place
abbrev pub pin_frontier : ProcessState → ℕ → Option ℕ
pin_frontier process place = option_map (λ (known : Knowledge). known.frontier) (slice_get process.received place)

-- the value of the last change that it has received
abbrev pub pin_last : ProcessState → ℕ → Option Value
pin_last process place = option_map (λ (known : Knowledge). last_value known.wave) (slice_get process.received place)

-- what a process knows of its pins, as its net sees them
abbrev pub seen_by : ProcessState → List Knowledge
seen_by process = seen_pins process.net.wires process.received

-- the tick up to which all pins are known, as the net sees them
abbrev pub safe_of : ProcessState → ℕ
safe_of process = least_or process.end (map (λ (known : Knowledge). known.frontier) (seen_by process))

-- how far a net can be computed if all its pins are known up to a tick: to the first tick that asks for more, but not past the end
abbrev pub frontier_of : Net → ℕ → ℕ → ℕ
frontier_of net end safe = option_map_or (min end) (first_asker net safe) end

-- the first of this number of ticks, from one on, at which a signal is X, or the tick after them if none
abbrev pub first_unknown : (ℕ → Value) → ℕ → ℕ → ℕ
first_unknown signal from zero = from
first_unknown signal from (suc ticks) = if is_same (signal from) Unknown then from else first_unknown signal (from + 1) ticks

-- a gate advances further while what is known of its pins settles its value: from its frontier, and from where some pin
-- isn't known, to the first tick at which it doesn't
abbrev pub reach_of_part : Part → (ℕ → Value) → ℕ → ℕ → ℕ → ℕ
reach_of_part (Gate kind) signal end frontier sure = min end (first_unknown signal (max frontier sure) (end - max frontier sure))
reach_of_part Input signal end frontier sure = sure
reach_of_part Flop signal end frontier sure = sure

-- from a frontier on a net asks for no tick of the source of the pin at a place before this one
abbrev pub oldest_asked : Net → ℕ → ℕ → ℕ
oldest_asked net place frontier = frontier - net.timing.delay - wire_at net place

-- of what it received at a place, and knows so far, a process keeps the ticks from this one on
abbrev pub kept_from : ProcessState → ℕ → ℕ → ℕ
kept_from process place frontier = kept_since (oldest_asked process.net place process.known.frontier) frontier

-- what it keeps of what it received at a place
abbrev pub kept : ProcessState → ℕ → Knowledge → Knowledge
kept process place received = forgetting (kept_from process place received.frontier) received

-- what it keeps of what it received at the places from one on
abbrev pub all_kept : ProcessState → ℕ → List Knowledge → List Knowledge
all_kept process place [] = []
all_kept process place (received ∷ others) = kept process place received ∷ all_kept process (place + 1) others

-- what pins show, as far as it is known, and X from there on
abbrev pub signals_of : List Knowledge → List (ℕ → Value)
signals_of received = map (λ (known : Knowledge). value_at (as_known known)) received

-- what a net shows over what is known of its pins
abbrev pub signal_over : Net → List Knowledge → ℕ → Value
signal_over net received = equation net (signals_of (seen_pins net.wires received))

-- how far a net is computed from a frontier on, if its pins show these signals and all of them are known up to a tick
abbrev pub reach : Net → ℕ → ℕ → ℕ → List (ℕ → Value) → ℕ
reach net end frontier safe signals = reach_of_part net.part (equation net signals) end frontier (frontier_of net end safe)

-- how far its net can be computed from ticks at which all its pins are known
abbrev pub sure_frontier : ProcessState → ℕ
sure_frontier process = frontier_of process.net process.end (safe_of process)

abbrev pub next_frontier : ProcessState → ℕ
next_frontier process =
    reach process.net process.end process.known.frontier (safe_of process) (signals_of (seen_by process))

-- a waveform that shows one value
abbrev pub always : Value → Wave
always value = record { before = value; changes = [] }

-- what a waveform shows up to a tick, and from there on another signal
abbrev pub continued : Wave → ℕ → (ℕ → Value) → ℕ → Value
continued wave from signal tick = if nat_lt tick from then value_at wave tick else signal tick

-- what its net shows over what it knows of the pins
abbrev pub signal_so_far : ProcessState → ℕ → Value
signal_so_far process = signal_over process.net process.received

-- the net's signal as the process computes it: what it knew, and from its frontier on its equation over what its pins show
abbrev pub reckoned : ProcessState → ℕ → Value
reckoned process = continued process.known.wave process.known.frontier (signal_so_far process)

-- the process after it has computed its net as far as it can
abbrev pub extended : ProcessState → ProcessState
extended process = record process { known = knowledge_of (reckoned process) process.floor (next_frontier process) }

-- the process after it advances: it keeps no more of its pins than it must
abbrev pub advanced : ProcessState → ProcessState
advanced process = record (extended process) { received = all_kept (extended process) 0 process.received }

-- the messages that it then sends
abbrev pub news : ProcessState → List Message
news process = news_between (reckoned process) process.known.frontier (next_frontier process)

-- the process after it receives a message at a place
abbrev pub heard : ℕ → Message → ProcessState → ProcessState
heard place message process =
    record process {
      received = update (λ (known : Knowledge). kept process place (told known message)) place process.received;
    }

-- the process after it receives some messages at a place, one after another
abbrev pub heard_all : ℕ → List Message → ProcessState → ProcessState
heard_all place [] process = process
heard_all place (message ∷ messages) process = heard_all place messages (heard place message process)

-- how many of some messages the pin at a place takes to be known up to a tick
abbrev pub wanted_at : ℕ → ProcessState → ℕ → List Message → ℕ
wanted_at tick process place messages = option_map_or (λ known. wanted tick known messages) (pin_frontier process place) 0

-- those messages
abbrev pub wanted_messages : ℕ → ProcessState → ℕ → List Message → List Message
wanted_messages tick process place messages = take (wanted_at tick process place messages) messages

-- the process after it receives those
abbrev pub heard_below : ℕ → ℕ → List Message → ProcessState → ProcessState
heard_below tick place messages process = heard_all place (wanted_messages tick process place messages) process

-- the process after its changes before a tick were taken out: its waveform is kept from there on, or from its old floor
-- if that is later
abbrev pub drained : ℕ → ProcessState → ProcessState
drained bound process =
    let floor = max process.floor bound in record process { floor = floor; known = forgetting floor process.known }

-- the changes that are taken out
abbrev pub drained_changes : ℕ → ProcessState → List Change
drained_changes bound process = changes_between (value_at process.known.wave) process.floor bound

-- the delay of a gate or flip-flop, or a bound for an input, which waits for nothing
abbrev pub own_delay : Part → ℕ → ℕ → ℕ
own_delay Input bound delay = bound
own_delay (Gate kind) bound delay = delay
own_delay Flop bound delay = delay
