-- The trace of a run that a source makes.
use Rattle.std.specs.Prelude.{◌≡◌, ℕ, ◌+◌, ◌<◌, Bool, List, length, Option, None, Some, Result, Ok, IsOkAnd}
use denote.Ref.{Bor}
use Rattle.texts.specs.Text.{◌>>=◌}
use Rattle.design.specs.Design.{DesignView}
use Rattle.cmb_kernel.specs.State.{State, frontier_at, IsComplete}
use Rattle.prepared_runs.specs.declared.fault.SimFault.{SimFault}
use Rattle.prepared_runs.specs.Source.{SourceView, net_or_unknown}
use Rattle.prepared_runs.specs.Prepared.{RunView, run_of_source}
use Rattle.event_trace.specs.declared.shown_events.ShownEvents.{ShownEvents}
use Rattle.event_trace.specs.declared.trace_view.TraceView.{TraceView}
use Rattle.event_trace.specs.Trace.{shown_trace, state_at_end, trace_text}

-- what a run's kernel does, event by event
unfoldable pub trace_of_run : RunView → List ℕ
trace_of_run run = trace_text run.design.circuit (run.horizon + 1) run.events

-- the answer to texts and settings: the trace, or the first fault
unfoldable pub trace_of_source : SourceView → ℕ → Result (List ℕ) SimFault
trace_of_source source ticks = do
  run ← run_of_source source ticks
  Ok (trace_of_run run)

-- ---- a part of it

-- the events of all nets, or of the net of this name
abbrev pub shown_named : DesignView → Bool → Option (Bor (List ℕ)) → Result ShownEvents SimFault
shown_named design idle None = Ok (record { idle = idle; net = None })
shown_named design idle (Some name) = do
  net ← net_or_unknown design name.now
  Ok (record { idle = idle; net = Some net })

-- the events of a design that a view shows, if there is a net of the name that it gives
abbrev pub shown_or_unknown : DesignView → TraceView → Result ShownEvents SimFault
shown_or_unknown design view = shown_named design view.idle view.net

-- what a run's kernel does, with the lines of these events
unfoldable pub shown_trace_of_run : ShownEvents → RunView → List ℕ
shown_trace_of_run shown run = shown_trace shown run.design.circuit (run.horizon + 1) run.events

-- the answer to texts, settings and a view: the trace with the lines that it shows, or the first fault
unfoldable pub shown_trace_of_source : SourceView → ℕ → TraceView → Result (List ℕ) SimFault
shown_trace_of_source source ticks view = do
  run ← run_of_source source ticks
  shown ← shown_or_unknown run.design view
  Ok (shown_trace_of_run shown run)

-- ---- its end

-- the last state of a run
abbrev pub last_state : RunView → State
last_state run = state_at_end run.design.circuit (run.horizon + 1) run.events

-- a traced run ends complete: each net is known at every tick up to the horizon
pub record IsTracedToItsEnd (run : RunView) : Type 0 where
  pub complete : IsComplete (last_state run)
  pub known : (net : ℕ) → net < length run.design.circuit → frontier_at (last_state run) net ≡ run.horizon + 1

-- so does the run that a source makes
abbrev pub EndsComplete : SourceView → ℕ → Type 0
EndsComplete source horizon = IsOkAnd (run_of_source source horizon) IsTracedToItsEnd
