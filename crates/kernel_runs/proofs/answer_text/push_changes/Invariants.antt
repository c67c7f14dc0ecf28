-- The text so far is the one before and the lines of the changes so far.
use Rattle.std.proofs.Common.{◌≡◌, ◌++◌, flat_map, string_bytes, take}
use Rattle.kernel_runs.specs.AnswerText.{side_line}
use Rattle.kernel_runs.proofs.answer_text.push_changes.Given as goal

abbrev pub invariant-loop-change : goal.invariant-loop-change
invariant-loop-change l =
    string_bytes l.text ≡ string_bytes l.initial.text ++ flat_map (side_line l.side) (take l.change-index l.change-items)
