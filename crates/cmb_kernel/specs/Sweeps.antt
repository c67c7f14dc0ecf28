-- Sweeps: nets in some order take what they need to reach a tick, and advance.
use Rattle.std.specs.Prelude.{◌≡◌, ℕ, ◌+◌, ◌<◌, ◌≤◌, min, nat_lt, if◌then◌else◌, List, [], ◌∷◌, All, length, slice_get}
use Rattle.std.specs.List.{range_with_len, Contains}
use Rattle.std.specs.Option.{option_map_or}
use Rattle.design.specs.Circuit.{Net, Circuit}
use Rattle.design.specs.Pins.{first_pin}
use Rattle.cmb_channels.specs.declared.message.Message.{Message}
use Rattle.cmb_events.specs.Schedule.{Exists}
use Rattle.cmb_events.specs.declared.event.Event.{Event}
use Rattle.cmb_events.specs.declared.event.Event.TheVariants.{Deliver, Advance}
use Rattle.cmb_kernel.specs.State.{State, KernelView, nets_of, frontier_at, floor_at, received_at, waiting_at, least_frontier, least_delay, past_least}
use Rattle.cmb_kernel.specs.Step.{step, steps}
use Rattle.cmb_kernel.specs.Useful.{NoneFalls}

-- the numbers of a net's pins
abbrev pub pin_numbers : Circuit → ℕ → List ℕ
pin_numbers circuit net =
    range_with_len (first_pin circuit net) (option_map_or (λ (at : Net). length at.pins) (slice_get circuit net) 0)

-- the state after a pin takes these messages, which wait there, one by one as long as it is known up to less than a tick
abbrev pub taken_below : ℕ → ℕ → State → List Message → State
taken_below tick pin state [] = state
taken_below tick pin state (message ∷ messages) =
    if nat_lt (received_at state pin) tick then taken_below tick pin (step state (Deliver pin)) messages else state

-- the state after a pin catches up with a tick, as far as what waits there goes
abbrev pub caught_up : ℕ → State → ℕ → State
caught_up tick state pin = taken_below tick pin state (waiting_at state pin)

-- the state after these pins catch up, one after another
abbrev pub all_caught_up : ℕ → State → List ℕ → State
all_caught_up tick state [] = state
all_caught_up tick state (pin ∷ pins) = all_caught_up tick (caught_up tick state pin) pins

-- the state after the pins of a net catch up and the net advances
abbrev pub swept_net : ℕ → State → ℕ → State
swept_net tick state net = step (all_caught_up tick state (pin_numbers (nets_of state) net)) (Advance net)

-- the state after a sweep: these nets do so, one after another
abbrev pub swept : ℕ → List ℕ → State → State
swept tick [] state = state
swept tick (net ∷ order) state = swept tick order (swept_net tick state net)

-- this holds of each sweep of a circuit: of its tick and its nets
abbrev pub ForSweeps : Circuit → (ℕ → List ℕ → Type 0) → Type 0
ForSweeps circuit P = (tick : ℕ) (order : List ℕ) → All (λ net. net < length circuit) order → P tick order

-- the list holds every net of a circuit
abbrev pub HoldsAll : Circuit → List ℕ → Type 0
HoldsAll circuit order = (net : ℕ) → net < length circuit → Contains order net

-- this holds of each sweep over all nets of a circuit
abbrev pub ForWholeSweeps : Circuit → (ℕ → List ℕ → Type 0) → Type 0
ForWholeSweeps circuit P = ForSweeps circuit (λ tick order. HoldsAll circuit order → P tick order)

-- each net of a circuit is known up to a tick
abbrev pub AllKnow : Circuit → ℕ → State → Type 0
AllKnow circuit tick state = (net : ℕ) → net < length circuit → tick ≤ frontier_at state net

-- what a sweep over some nets to a tick makes of a kernel
pub record IsSwept (tick : ℕ) (order : List ℕ) (old new : KernelView) : Type 0 where
  -- if it goes over all nets, to a tick that is not below the least frontier, it raises that by at least the least delay, or to the end
  pub raises : HoldsAll old.circuit order → least_frontier old.end old.state ≤ tick →
      past_least old.end old.circuit old.state ≤ least_frontier new.end new.state
  pub rises : HoldsAll old.circuit order → least_frontier old.end old.state ≤ tick → least_frontier old.end old.state < old.end →
      least_frontier old.end old.state < least_frontier new.end new.state
  -- if every net is known up to a tick, each net of the list is then known at least the least delay past it, or to the end
  pub farther : (low : ℕ) → AllKnow old.circuit low old.state → low ≤ tick → low ≤ old.end →
      All (λ net. min old.end (low + least_delay old.end old.circuit) ≤ frontier_at new.state net) order
  pub none_falls : NoneFalls old.state new.state
  -- it takes out no changes
  pub floors : (net : ℕ) → floor_at new.state net ≡ floor_at old.state net

-- some events, each of a pin or net that exists, lead from the one state to the other
pub record EventsLead (circuit : Circuit) (old new : State) : Type 0 where
  pub events : List Event
  pub exist : All (Exists circuit) events
  pub leads : steps old events ≡ new
