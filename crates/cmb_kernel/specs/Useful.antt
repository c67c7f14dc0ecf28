-- Events that are useful, and how many are.
use Rattle.std.specs.Prelude.{◌≡◌, ◌≢◌, ℕ, ◌+◌, ◌-◌, ◌*◌, ◌<◌, ◌≤◌, ◌⊎◌, nat_lt, if◌then◌else◌, Bool, true, false, List, [], ◌∷◌, length, sum_by, All}
use Rattle.design.specs.Circuit.{Circuit, pin_count}
use Rattle.design.specs.Pins.{net_of_pin}
use Rattle.gate_process.specs.Knowledge.{Knowledge}
use Rattle.gate_process.specs.Step.{ProcessState}
use Rattle.cmb_events.specs.declared.event.Event.{Event}
use Rattle.cmb_events.specs.declared.event.Event.TheVariants.{Deliver, Advance}
use Rattle.cmb_kernel.specs.State.{State, frontier_at, received_at}
use Rattle.cmb_kernel.specs.Step.{step, steps, ForEvents}

-- the sum of the frontiers of a process and of its pins
abbrev pub progress_of : ProcessState → ℕ
progress_of process = process.known.frontier + sum_by (λ (known : Knowledge). known.frontier) process.received

-- the sum of all frontiers, of the nets and of what the pins received
abbrev pub progress : State → ℕ
progress state = sum_by progress_of state.processes

-- what is left of the progress in a run of a circuit up to an end: no net and no pin knows more ticks than those before the end
abbrev pub remaining : Circuit → ℕ → State → ℕ
remaining circuit last state = last * (length circuit + pin_count circuit) - progress state

-- the event is useful: it raises a frontier
abbrev pub is_useful : State → Event → Bool
is_useful state event = nat_lt (progress state) (progress (step state event))

-- no frontier of a net or pin falls from the one state to the other
pub record NoneFalls (old new : State) : Type 0 where
  pub nets : (net : ℕ) → frontier_at old net ≤ frontier_at new net
  pub pins : (pin : ℕ) → received_at old pin ≤ received_at new pin

-- some frontier of a net or pin rises
abbrev pub SomeRises : State → State → Type 0
SomeRises old new = ((net : ℕ) × (frontier_at old net < frontier_at new net)) ⊎ ((pin : ℕ) × (received_at old pin < received_at new pin))

-- how many of some events are useful when they come
abbrev pub useful_count : State → List Event → ℕ
useful_count state [] = 0
useful_count state (event ∷ events) = (if is_useful state event then 1 else 0) + useful_count (step state event) events

-- no pin of a net takes a message by the event
abbrev pub IsUnheard : Circuit → ℕ → Event → Type 0
IsUnheard circuit net (Deliver pin) = net_of_pin circuit pin ≢ net
IsUnheard circuit net (Advance other) = Unit {0}

-- a net has nothing to send until one of its pins takes a message
abbrev pub StaysQuiet : Circuit → State → ℕ → Type 0
StaysQuiet circuit state net =
    ForEvents circuit (λ events. All (IsUnheard circuit net) events → is_useful (steps state events) (Advance net) ≡ false)

abbrev pub is_advance : Event → Bool
is_advance (Deliver pin) = false
is_advance (Advance net) = true

-- how many of some events are useful advances
abbrev pub useful_advances : State → List Event → ℕ
useful_advances state [] = 0
useful_advances state (event ∷ events) =
    (if is_advance event then (if is_useful state event then 1 else 0) else 0) + useful_advances (step state event) events
