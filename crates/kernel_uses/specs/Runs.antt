-- What holds after a run that events completed.
use Rattle.std.specs.Prelude.{◌≡◌, ℕ, ◌<◌, List, All, length}
use Rattle.design.specs.Circuit.{Circuit}
use Rattle.design.specs.Equations.{waves_of}
use Rattle.cmb_events.specs.Schedule.{Exists}
use Rattle.cmb_events.specs.declared.event.Event.{Event}
use Rattle.cmb_kernel.specs.State.{KernelView, State, IsComplete, IsUndrained, frontier_at, floor_at, most_rounds, waves_in}
use Rattle.cmb_kernel.specs.Step.{steps, completed_within}
use Rattle.cmb_kernel.specs.Sound.{IsSound, waves_kept}
use Rattle.cmb_kernel.specs.Sweeps.{EventsLead}
use Rattle.cmb_kernel.specs.Useful.{useful_count}

-- a kernel after events alone
pub record IsLed (old now : KernelView) : Type 0 where
  pub run : now ≡ record old { state = now.state }
  pub sound : IsSound old.circuit old.end now.state
  pub events : EventsLead old.circuit old.state now.state

-- this number of events, each of a pin or net that exists and each useful when it comes, lead from the one state to the other
pub record UsefulEventsLead (circuit : Circuit) (old new : State) (count : ℕ) : Type 0 where
  pub events : List Event
  pub exist : All (Exists circuit) events
  pub leads : steps old events ≡ new
  pub useful : useful_count old events ≡ count
  pub all : length events ≡ count

-- events alone led a kernel to the end of its run: each net is known to the end, and shows what the equations give,
-- from its floor on, or from tick 0 on if nothing was taken out; so it shows what it would after rounds
pub record IsCompleted (old new : KernelView) : Type 0 where
  pub run : new ≡ record old { state = new.state }
  pub events : EventsLead old.circuit old.state new.state
  pub sound : IsSound old.circuit old.end new.state
  pub complete : IsComplete new.state
  pub frontiers : (net : ℕ) → net < length old.circuit → frontier_at new.state net ≡ old.end
  pub floors : (net : ℕ) → floor_at new.state net ≡ floor_at old.state net
  pub waves : waves_in new.state ≡ waves_kept old.circuit old.end new.state
  pub undrained : IsUndrained old.state → waves_in new.state ≡ waves_of old.circuit old.end
  pub as_rounds : waves_in new.state ≡ waves_in (completed_within (most_rounds old.end old.circuit) old.state)
