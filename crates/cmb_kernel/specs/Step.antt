use Rattle.std.specs.Prelude.{ℕ, zero, suc, ◌+◌, min, if◌then◌else◌, List, [], ◌∷◌, ◌++◌, length, map, replicate, count_by, All, slice_get}
use Rattle.std.specs.List.{range_with_len}
use Rattle.std.specs.Option.{option_map_or}
use Rattle.cmb_kernel.specs.declared.counts.Counts.{Counts}
use Rattle.cmb_events.specs.declared.event.Event.{Event}
use Rattle.cmb_events.specs.declared.event.Event.TheVariants.{Deliver, Advance}
use Rattle.cmb_channels.specs.declared.message.Message.{Message}
use Rattle.cmb_channels.specs.Kinds.{is_change, is_null}
use Rattle.cmb_channels.specs.Lists.{update, sent, taken}
use Rattle.cmb_events.specs.Schedule.{Exists}
use Rattle.design.specs.Circuit.{Circuit}
use Rattle.design.specs.Pins.{sources_of, net_of_pin, place_of_pin}
use Rattle.gate_process.specs.Step.{advanced, news, heard, drained}
use Rattle.cmb_kernel.specs.State.{State, nets_of, waiting_at, IsComplete, is_complete}

-- one more, but at most the greatest u64
abbrev pub one_more : ℕ → ℕ
one_more count = min (count + 1) 18_446_744_073_709_551_615

-- the counts after an event that sent these messages
abbrev pub counted : Counts → List Message → Counts
counted counts messages =
    record {
      events = one_more counts.events;
      changes = counts.changes + count_by is_change messages;
      nulls = counts.nulls + count_by is_null messages;
      rounds = counts.rounds;
    }

-- the counts after this number of events that sent nothing
abbrev pub counted_silent : ℕ → Counts → Counts
counted_silent zero counts = counts
counted_silent (suc events) counts = counted_silent events (counted counts [])

-- the messages that the process of a net has to send
abbrev pub news_at : State → ℕ → List Message
news_at state net = option_map_or news (slice_get state.processes net) []

-- the state after a net advances
abbrev pub after_advance : State → ℕ → State
after_advance state net =
    record {
      processes = update advanced net state.processes;
      lists = sent net (news_at state net) (sources_of (nets_of state)) state.lists;
      counts = counted state.counts (news_at state net);
    }

-- the state after a pin takes the first of these messages, which wait there
abbrev pub after_deliver : State → ℕ → List Message → State
after_deliver state pin [] = record state { counts = counted state.counts [] }
after_deliver state pin (message ∷ messages) =
    record {
      processes = update (heard (place_of_pin (nets_of state) pin) message) (net_of_pin (nets_of state) pin) state.processes;
      lists = taken pin state.lists;
      counts = counted state.counts [];
    }

-- the state after an event
abbrev pub step : State → Event → State
step state (Deliver pin) = after_deliver state pin (waiting_at state pin)
step state (Advance net) = after_advance state net

-- the state after a net's changes before a tick were taken out
abbrev pub after_drain : State → ℕ → ℕ → State
after_drain state net bound = record state { processes = update (drained bound) net state.processes }

-- the state after some events
abbrev pub steps : State → List Event → State
steps state [] = state
steps state (event ∷ events) = steps (step state event) events

-- this holds of any events of a circuit
abbrev pub ForEvents : Circuit → (List Event → Type 0) → Type 0
ForEvents circuit P = (events : List Event) → All (Exists circuit) events → P events

-- this holds of any events that complete a run from a state
abbrev pub ForCompletions : Circuit → State → (List Event → Type 0) → Type 0
ForCompletions circuit state P = ForEvents circuit (λ events. IsComplete (steps state events) → P events)

-- a delivery for each waiting message, of the pins from one on
abbrev pub deliveries_from : ℕ → List (List Message) → List Event
deliveries_from pin [] = []
deliveries_from pin (list ∷ lists) = replicate (length list) (Deliver pin) ++ deliveries_from (pin + 1) lists

-- the events of a round: each pin takes what waits there, then each net advances
abbrev pub round_events : State → List Event
round_events state = deliveries_from 0 state.lists ++ map Advance (range_with_len 0 (length state.processes))

abbrev pub with_round : State → State
with_round state = record state { counts = record state.counts { rounds = one_more state.counts.rounds } }

-- the state after a round
abbrev pub round_of : State → State
round_of state = with_round (steps state (round_events state))

-- the state after this number of rounds
abbrev pub rounds : ℕ → State → State
rounds zero state = state
rounds (suc count) state = rounds count (round_of state)

-- the state after the fewest rounds that complete it, if this number is enough
abbrev pub completed_within : ℕ → State → State
completed_within zero state = state
completed_within (suc count) state = if is_complete state then state else completed_within count (round_of state)
