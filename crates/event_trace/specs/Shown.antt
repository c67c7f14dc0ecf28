-- The changes of a net in a trace.
use Rattle.std.specs.Prelude.{◌≡◌, ℕ, ◌<◌, ◌==◌, IsTrue, if◌then◌else◌, List, [], ◌∷◌, length, flat_map}
use Rattle.logic3.specs.declared.change.Change.{Change}
use Rattle.logic3.specs.Wave.{wave_of}
use Rattle.design.specs.Circuit.{Circuit}
use Rattle.design.specs.Equations.{value_of}
use Rattle.cmb_channels.specs.declared.message.Message.{Message}
use Rattle.cmb_channels.specs.declared.message.Message.TheVariants.{Change as Changes, Null}
use Rattle.event_trace.specs.declared.shown_events.ShownEvents.{ShownEvents}
use Rattle.event_trace.specs.Lines.{Line, begins, advances, delivers, ends}
use Rattle.event_trace.specs.ShownLines.{shown_lines, shows_net}

-- the changes among some messages
abbrev pub changes_in : List Message → List Change
changes_in [] = []
changes_in (Changes change ∷ messages) = change ∷ changes_in messages
changes_in (Null bound ∷ messages) = changes_in messages

-- the changes of a net in a line
abbrev pub told_of : ℕ → Line → List Change
told_of net (begins number) = []
told_of net (advances other from to told) = if other == net then changes_in told else []
told_of net (delivers other place taken) = []
told_of net (ends counts) = []

-- the changes of a net in some lines, in order
abbrev pub changes_told_of : ℕ → List Line → List Change
changes_told_of net lines = flat_map (told_of net) lines

-- the changes of each net in some lines are those that the equations give it before an end
abbrev pub ShowWaveforms : Circuit → ℕ → List Line → Type 0
ShowWaveforms circuit end lines =
    (net : ℕ) → net < length circuit → changes_told_of net lines ≡ (wave_of (value_of circuit net) 0 end).changes

-- so are those of each net whose events are shown, in the lines that are
abbrev pub ShowWaveformsOf : ShownEvents → Circuit → ℕ → List Line → Type 0
ShowWaveformsOf shown circuit end lines =
    (net : ℕ) → net < length circuit → IsTrue (shows_net shown.net net) →
    changes_told_of net (shown_lines shown lines) ≡ (wave_of (value_of circuit net) 0 end).changes
