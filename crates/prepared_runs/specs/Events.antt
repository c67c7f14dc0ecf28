-- The events that are applied before a run completes.
use Rattle.std.specs.Prelude.{ℕ, List, [], Result, Ok}
use Rattle.design.specs.Circuit.{Circuit}
use Rattle.cmb_events.specs.declared.event.Event.{Event}
use Rattle.cmb_events.specs.declared.schedule_fault.ScheduleFault.{ScheduleFault}
use Rattle.cmb_events.specs.Schedule.{events_of, picks_of}
use Rattle.prepared_runs.specs.declared.source.Picks.{Picks}
use Rattle.prepared_runs.specs.declared.source.Picks.TheVariants.{Nothing, Text, Seeded}

-- what picks the events
pub data PicksView : Type 0 where
  nothing : PicksView
  text : (bytes : List ℕ) → PicksView
  seeded : (seed picks : ℕ) → PicksView

abbrev pub seen_picks : Picks → PicksView
seen_picks Nothing = nothing
seen_picks (Text bytes) = text bytes.now
seen_picks (Seeded seed picks) = seeded seed picks

-- the events that are picked, or the first fault
unfoldable pub events_of_picks : Circuit → PicksView → Result (List Event) ScheduleFault
events_of_picks circuit nothing = Ok []
events_of_picks circuit (text bytes) = events_of circuit bytes
events_of_picks circuit (seeded seed picks) = picks_of circuit seed picks
