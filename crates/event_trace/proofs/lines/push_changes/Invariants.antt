-- The text so far is the one before and the changes so far.
use Rattle.std.proofs.Common.{◌≡◌, ◌++◌, flat_map, take}
use Rattle.logic3.specs.declared.change.Change.{Change}
use Rattle.cmb_channels.specs.declared.message.Message.TheVariants.{Change as Changes}
use Rattle.event_trace.specs.Lines.{spaced_text}
use Rattle.event_trace.proofs.lines.push_changes.Given as goal

abbrev pub invariant-loop-change : goal.invariant-loop-change
invariant-loop-change l =
    l.text.items ≡ l.initial.text.items ++ flat_map (λ (change : Change). spaced_text (Changes change)) (take l.change-index l.changes)
