-- The lines that a trace shows.
use Rattle.std.specs.Prelude.{ℕ, ◌==◌, ◌&&◌, Bool, true, List, [], ◌∷◌, filter, Option, None, Some}
use Rattle.design.specs.Circuit.{Circuit}
use Rattle.cmb_channels.specs.declared.message.Message.{Message}
use Rattle.event_trace.specs.declared.shown_events.ShownEvents.{ShownEvents}
use Rattle.event_trace.specs.Lines.{Line, begins, advances, delivers, ends, lines_text}

-- all events are shown
abbrev pub every_event : ShownEvents
every_event = record { idle = true; net = None }

-- events of this net are shown
abbrev pub shows_net : Option ℕ → ℕ → Bool
shows_net None net = true
shows_net (Some only) net = only == net

-- events that send or take these messages are shown; without a message an event does nothing
abbrev pub shows_messages : Bool → List Message → Bool
shows_messages idle [] = idle
shows_messages idle (message ∷ messages) = true

-- an event of this net that sends or takes these messages is shown
abbrev pub shows_event : ShownEvents → ℕ → List Message → Bool
shows_event shown net messages = shows_net shown.net net && shows_messages shown.idle messages

-- the line of an event is shown if the event is; all other lines are
abbrev pub is_shown : ShownEvents → Line → Bool
is_shown shown (begins number) = true
is_shown shown (advances net from to told) = shows_event shown net told
is_shown shown (delivers net place taken) = shows_event shown net taken
is_shown shown (ends counts) = true

-- those of some lines that are shown
abbrev pub shown_lines : ShownEvents → List Line → List Line
shown_lines shown lines = filter (is_shown shown) lines

-- the text of those
abbrev pub shown_text : ShownEvents → Circuit → List Line → List ℕ
shown_text shown circuit lines = lines_text circuit (shown_lines shown lines)
