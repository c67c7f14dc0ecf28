-- The trace of a run.
use Rattle.std.specs.Prelude.{ℕ, zero, suc, if◌then◌else◌, List, [], ◌∷◌, ◌++◌, take, slice_index_or}
use Rattle.design.specs.Circuit.{Circuit}
use Rattle.design.specs.Pins.{net_of_pin, place_of_pin}
use Rattle.cmb_events.specs.declared.event.Event.{Event}
use Rattle.cmb_events.specs.declared.event.Event.TheVariants.{Deliver, Advance}
use Rattle.cmb_kernel.specs.State.{State, KernelView, started, nets_of, frontier_at, is_complete, most_rounds}
use Rattle.cmb_kernel.specs.Step.{one_more, news_at, step, steps, round_events, round_of, completed_within}
use Rattle.event_trace.specs.declared.shown_events.ShownEvents.{ShownEvents}
use Rattle.event_trace.specs.Lines.{Line, begins, advances, delivers, ends, lines_text}
use Rattle.event_trace.specs.ShownLines.{shown_text}

-- the line of an event that is applied to a state
abbrev pub line_of : State → Event → Line
line_of state (Deliver pin) =
    delivers (net_of_pin (nets_of state) pin) (place_of_pin (nets_of state) pin) (take 1 (slice_index_or state.lists pin []))
line_of state (Advance net) =
    advances net (frontier_at state net) (frontier_at (step state (Advance net)) net) (news_at state net)

-- the lines of some events
abbrev pub lines_of : State → List Event → List Line
lines_of state [] = []
lines_of state (event ∷ events) = line_of state event ∷ lines_of (step state event) events

-- the lines of the round with this number
abbrev pub numbered_round : ℕ → State → List Line
numbered_round number state = begins number ∷ lines_of state (round_events state)

-- the lines of the next round
abbrev pub round_lines : State → List Line
round_lines state = numbered_round (one_more state.counts.rounds) state

-- the lines of the fewest rounds that complete a state, up to a limit
abbrev pub lines_within : ℕ → State → List Line
lines_within zero state = []
lines_within (suc count) state = if is_complete state then [] else round_lines state ++ lines_within count (round_of state)

-- the lines of the rounds that complete a kernel
abbrev pub rounds_lines : KernelView → List Line
rounds_lines kernel = lines_within (most_rounds kernel.end kernel.circuit) kernel.state

-- the state at the end of a run: after some events, and then rounds until it is complete
abbrev pub state_at_end : Circuit → ℕ → List Event → State
state_at_end circuit end events = completed_within (most_rounds end circuit) (steps (started circuit end) events)

-- the lines from a state on: of some events, of the rounds that complete the run, and of the counts then
abbrev pub lines_from : State → ℕ → List Event → List Line
lines_from state most events =
    lines_of state events ++ lines_within most (steps state events) ++ ends (completed_within most (steps state events)).counts ∷ []

-- the lines of a kernel's run
abbrev pub run_lines : KernelView → List Event → List Line
run_lines kernel events = lines_from kernel.state (most_rounds kernel.end kernel.circuit) events

-- the lines of a run
abbrev pub trace_lines : Circuit → ℕ → List Event → List Line
trace_lines circuit end events = lines_from (started circuit end) (most_rounds end circuit) events

-- the trace of a run
abbrev pub trace_text : Circuit → ℕ → List Event → List ℕ
trace_text circuit end events = lines_text circuit (trace_lines circuit end events)

-- the trace of a run in which these events have lines; the rounds and the counts are those of the whole run
abbrev pub shown_trace : ShownEvents → Circuit → ℕ → List Event → List ℕ
shown_trace shown circuit end events = shown_text shown circuit (trace_lines circuit end events)
