use Rattle.std.proofs.Common.{◌≡◌, [], All}
use Rattle.texts.specs.Fold.{fold_lines, fold_text}
use Rattle.cmb_events.specs.Schedule.{events_after, Exists}
use Rattle.cmb_events.proofs.schedule.Schedule.read.Given as goal

-- the lines left, after the events so far, give all, and those so far exist
abbrev pub invariant-loop-line : goal.invariant-loop-line
invariant-loop-line l =
    (fold_lines (events_after l.design.circuit) l.events.items l.line-iterator ≡ fold_text (events_after l.design.circuit) [] l.text)
    × All (Exists l.design.circuit) l.events.items
