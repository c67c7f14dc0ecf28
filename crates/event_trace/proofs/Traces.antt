-- The answer to a trace, step by step, and that the run ends complete.
use Rattle.std.proofs.Common.{◌≡◌, ℕ, ◌+◌, Bool, true, List, All, Option, None, Some, Result, Ok, Err, OnOk, refl, ap}
use Rattle.std.specs.Option.{ok_or}
use Rattle.std.proofs.KnownBytes.{Keeps-refl}
use denote.Ref.{Bor}
use Rattle.texts.specs.Text.{◌>>=◌}
use Rattle.design.specs.Design.{DesignView, IsDesign}
use Rattle.design.proofs.CallerLemmas.{IsCircuit-from_IsDesign}
use Rattle.cmb_events.specs.Schedule.{Exists}
use Rattle.cmb_kernel.specs.State.{most_rounds, started}
use Rattle.cmb_kernel.specs.Step.{steps}
use Rattle.cmb_kernel.proofs.CallerLemmas.{completed_sound, frontier_when_complete, rounds_end, started_sound, steps_sound}
use Rattle.event_trace.specs.declared.shown_events.ShownEvents.{ShownEvents}
use Rattle.event_trace.specs.declared.trace_view.TraceView.{TraceView}
use Rattle.event_trace.specs.ShownLines.{every_event}
use Rattle.event_trace.specs.Trace.{shown_trace, trace_lines}
use Rattle.prepared_runs.specs.declared.fault.SimFault.{SimFault}
use Rattle.prepared_runs.specs.declared.fault.SimFault.TheVariants.{UnknownNet, Dump, Memory}
use Rattle.prepared_runs.specs.Ends.{RunEndsBy}
use Rattle.prepared_runs.specs.Prepared.{RunView, run_of_source}
use Rattle.prepared_runs.specs.Source.{SourceView}
use Rattle.prepared_runs.proofs.CallerLemmas.{WritesPart-kept, ready_of_run}
use Rattle.event_trace.specs.Traced.{last_state, shown_named, shown_or_unknown, shown_trace_of_run, shown_trace_of_source, trace_of_run, trace_of_source, EndsComplete, IsTracedToItsEnd}
use Rattle.event_trace.proofs.ShownTexts.{shown_text-every}

pub shown_trace_of_run-is : (shown : ShownEvents) (run : RunView) →
    shown_trace shown run.design.circuit (run.horizon + 1) run.events ≡ shown_trace_of_run shown run
unfolding shown_trace_of_run
shown_trace_of_run-is shown run = refl

module _ (source : SourceView) (ticks : ℕ) (view : TraceView) where
  pub shown_trace_of_source-bad : (fault : SimFault) → run_of_source source ticks ≡ Err fault → shown_trace_of_source source ticks view ≡ Err fault
  unfolding shown_trace_of_source
  shown_trace_of_source-bad fault bad = rw bad refl

  module _ (run : RunView) (made : run_of_source source ticks ≡ Ok run) where
    pub shown_trace_of_source-unknown : (fault : SimFault) → shown_or_unknown run.design view ≡ Err fault →
        shown_trace_of_source source ticks view ≡ Err fault
    unfolding shown_trace_of_source
    shown_trace_of_source-unknown fault lacks = rw (made, lacks) refl

    pub shown_trace_of_source-good : (shown : ShownEvents) → shown_or_unknown run.design view ≡ Ok shown →
        shown_trace_of_source source ticks view ≡ Ok (shown_trace_of_run shown run)
    unfolding shown_trace_of_source
    shown_trace_of_source-good shown found = rw (made, found) refl

-- the events of a net
abbrev events_of : Bool → ℕ → ShownEvents
events_of idle net = record { idle = idle; net = Some net }

-- a name that no net has is the answer, before a byte is written
RunEndsBy-lacking : (answer : Result (List ℕ) SimFault) (old : Option (List ℕ)) (idle : Bool) (fault : SimFault) (found : Option ℕ) →
    (ok_or found UnknownNet >>= λ (net : ℕ). Ok (events_of idle net)) ≡ Err fault → answer ≡ Err fault →
    RunEndsBy answer old old fault
RunEndsBy-lacking answer old idle (Dump other) None lacks is = cc
RunEndsBy-lacking answer old idle (Dump other) (Some net) lacks is = cc
RunEndsBy-lacking answer old idle Memory found lacks is = WritesPart-kept answer old old (Keeps-refl old)
RunEndsBy-lacking answer old idle _ found lacks is = (is, Keeps-refl old)

pub RunEndsBy-unknown : (answer : Result (List ℕ) SimFault) (old : Option (List ℕ)) (design : DesignView) (idle : Bool) (net : Option (Bor (List ℕ)))
    (fault : SimFault) → shown_named design idle net ≡ Err fault → answer ≡ Err fault → RunEndsBy answer old old fault
RunEndsBy-unknown answer old design idle None fault lacks is = cc
RunEndsBy-unknown answer old design idle (Some name) fault lacks is =
    RunEndsBy-lacking answer old idle fault _ lacks is

-- ---- the trace in which all events have lines

whole_of_run : (run : RunView) → shown_trace_of_run every_event run ≡ trace_of_run run
unfolding shown_trace_of_run trace_of_run
whole_of_run run = shown_text-every run.design.circuit (trace_lines run.design.circuit (run.horizon + 1) run.events)

whole_of_made : (made : Result RunView SimFault) →
    (made >>= λ (run : RunView). Ok (shown_trace_of_run every_event run)) ≡ (made >>= λ (run : RunView). Ok (trace_of_run run))
whole_of_made (Ok run) = ap (λ (text : List ℕ). Ok text) (whole_of_run run)
whole_of_made (Err fault) = refl

pub whole_of_source : (source : SourceView) (ticks : ℕ) →
    shown_trace_of_source source ticks (record { idle = true; net = None }) ≡ trace_of_source source ticks
unfolding shown_trace_of_source trace_of_source
whole_of_source source ticks = whole_of_made (run_of_source source ticks)

-- ---- a traced run ends complete

IsTracedToItsEnd-from : (run : RunView) → IsDesign run.design → All (Exists run.design.circuit) run.events → IsTracedToItsEnd run
IsTracedToItsEnd-from run design exist =
    let circuit = run.design.circuit in
    let end = run.horizon + 1 in
    let ok = IsCircuit-from_IsDesign run.design design in
    let after = steps (started circuit end) run.events in
    let reached = steps_sound circuit ok end (started circuit end) run.events (started_sound circuit end) exist in
    let complete = rounds_end circuit ok end after reached in
    record {
      complete = complete;
      known = frontier_when_complete circuit end (last_state run)
          (completed_sound circuit ok end (most_rounds end circuit) after reached) complete;
    }

pub ends_complete_on : {A F : Type 0} (source : SourceView) (ticks : ℕ) (run : RunView) (result : Result A F) → run_of_source source ticks ≡ Ok run →
    All (Exists run.design.circuit) run.events → OnOk result (EndsComplete source ticks)
ends_complete_on source ticks run (Ok value) made exist =
    rw made (IsTracedToItsEnd-from run (ready_of_run source ticks run made).design exist)
ends_complete_on source ticks run (Err fault) made exist = tt
