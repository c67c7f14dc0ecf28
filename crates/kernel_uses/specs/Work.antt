-- What there is to do, and what a driver with a work list keeps.
use Rattle.std.specs.Prelude.{◌≡◌, ◌≢◌, ℕ, ◌-◌, ◌<◌, ◌≤◌, nat_lt, if◌then◌else◌, false, [], length, slice_index_or}
use Rattle.design.specs.Circuit.{Circuit, pin_count}
use Rattle.design.specs.Pins.{net_of_pin}
use Rattle.cmb_events.specs.declared.event.Event.{Event}
use Rattle.cmb_events.specs.declared.event.Event.TheVariants.{Deliver, Advance}
use Rattle.cmb_kernel.specs.State.{KernelView, State}
use Rattle.cmb_kernel.specs.Useful.{is_useful, remaining}
use Rattle.kernel_uses.specs.Runs.{IsLed}

-- events by number: first the deliveries to all pins, then the advances of all nets
abbrev pub event_numbered : Circuit → ℕ → Event
event_numbered circuit number = if nat_lt number (pin_count circuit) then Deliver number else Advance (number - pin_count circuit)

-- a net has nothing to do: it has nothing to send, and nothing waits at its pins
pub record IsIdle (circuit : Circuit) (state : State) (net : ℕ) : Type 0 where
  pub told : is_useful state (Advance net) ≡ false
  pub heard : (pin : ℕ) → pin < pin_count circuit → net_of_pin circuit pin ≡ net → slice_index_or state.lists pin [] ≡ []

-- a pin took all that waits there, and nothing else happened: what waits at other pins stays, and other nets have as much to send
pub record HasTaken (pin : ℕ) (old new : KernelView) : Type 0 where
  pub led : IsLed old new
  pub lists : (other : ℕ) → other ≢ pin → slice_index_or new.state.lists other [] ≡ slice_index_or old.state.lists other []
  pub told : (net : ℕ) → net < length old.circuit → net ≢ net_of_pin old.circuit pin →
      is_useful new.state (Advance net) ≡ is_useful old.state (Advance net)
  pub left : remaining old.circuit old.end new.state ≤ remaining old.circuit old.end old.state

-- the pins of a net took all that waits there, and nothing else happened: a net that had nothing to do still has nothing to do
pub record HasHeard (net : ℕ) (old new : KernelView) : Type 0 where
  pub led : IsLed old new
  pub heard : (pin : ℕ) → pin < pin_count old.circuit → net_of_pin old.circuit pin ≡ net → slice_index_or new.state.lists pin [] ≡ []
  pub idle : (other : ℕ) → other < length old.circuit → other ≢ net → IsIdle old.circuit old.state other →
      IsIdle old.circuit new.state other
  pub left : remaining old.circuit old.end new.state ≤ remaining old.circuit old.end old.state
