-- Which events a kernel refuses.
use Rattle.std.specs.Prelude.{ℕ, ◌+◌, nat_lt, if◌then◌else◌, List, [], ◌∷◌, length, Option, None, Some, Result, Ok, Err}
use Rattle.std.specs.Option.{option_or}
use Rattle.design.specs.Circuit.{Circuit, pin_count}
use Rattle.cmb_events.specs.declared.event.Event.{Event}
use Rattle.cmb_events.specs.declared.event.Event.TheVariants.{Deliver, Advance}
use Rattle.cmb_kernel.specs.declared.fault.KernelFault.{KernelFault}
use Rattle.cmb_kernel.specs.declared.fault.KernelFault.TheVariants.{NoSuchPin, NoSuchNet, TooManyEvents, Failed}
use Rattle.cmb_events.specs.Schedule.{most_events}
use Rattle.cmb_kernel.specs.State.{KernelView}

-- what is wrong with the event at this place of a list
abbrev pub event_fault : Circuit → ℕ → Event → Option KernelFault
event_fault circuit at (Deliver pin) = if nat_lt pin (pin_count circuit) then None else Some (NoSuchPin at)
event_fault circuit at (Advance net) = if nat_lt net (length circuit) then None else Some (NoSuchNet at)

-- the fault of the first bad event, from this place on
abbrev pub first_fault : Circuit → ℕ → List Event → Option KernelFault
first_fault circuit at [] = None
first_fault circuit at (event ∷ events) = option_or (event_fault circuit at event) (first_fault circuit (at + 1) events)

-- what is wrong with a list of events
abbrev pub list_fault : Circuit → List Event → Option KernelFault
list_fault circuit events = if nat_lt most_events (length events) then Some TooManyEvents else first_fault circuit 0 events

-- the fault with which a kernel refuses a call: one that has failed refuses each
abbrev pub refusal : KernelView → Option KernelFault → Option KernelFault
refusal kernel fault = if kernel.failed then Some Failed else fault

-- the result of a call: the refusal, if any, or else this value
abbrev pub answer : {A : Type 0} → Option KernelFault → A → Result A KernelFault
answer None value = Ok value
answer (Some fault) value = Err fault
