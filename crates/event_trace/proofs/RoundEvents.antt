-- The lines of a round.
use Rattle.std.proofs.Common.{◌≡◌, ℕ, List, ◌∷◌, ◌++◌, ap, ◌∙◌, append_assoc}
use Rattle.design.specs.Circuit.{Circuit}
use Rattle.cmb_events.specs.declared.event.Event.{Event}
use Rattle.cmb_kernel.specs.State.{State}
use Rattle.cmb_kernel.specs.Step.{round_events}
use Rattle.event_trace.specs.declared.shown_events.ShownEvents.{ShownEvents}
use Rattle.event_trace.specs.Lines.{begins, round_text}
use Rattle.event_trace.specs.ShownLines.{shown_text}
use Rattle.event_trace.specs.Trace.{lines_of}

-- the line before a round, and the lines of its events
pub round_lines_are : (shown : ShownEvents) (circuit : Circuit) (state : State) (number : ℕ) (text begun : List ℕ) (events : List Event) → events ≡ round_events state →
    begun ≡ text ++ round_text number →
    begun ++ shown_text shown circuit (lines_of state events) ≡ text ++ shown_text shown circuit (begins number ∷ lines_of state (round_events state))
round_lines_are shown circuit state number text begun events is begins_so =
    ap (λ es. begun ++ shown_text shown circuit (lines_of state es)) is
    ∙ ap (λ (xs : List ℕ). xs ++ shown_text shown circuit (lines_of state (round_events state))) begins_so
    ∙ append_assoc text (round_text number) (shown_text shown circuit (lines_of state (round_events state)))
