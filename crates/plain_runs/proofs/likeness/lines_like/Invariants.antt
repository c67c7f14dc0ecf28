-- The numbers so far, and those of the lines left, are those of the text.
use Rattle.std.proofs.Common.{◌≡◌, ◌++◌, flat_map}
use Rattle.plain_runs.specs.Likenesses.{lines_like, number_if_like}
use Rattle.plain_runs.proofs.likeness.lines_like.Given as goal

abbrev pub invariant-loop-number : goal.invariant-loop-number
invariant-loop-number l = l.numbers.items ++ flat_map (number_if_like l.likeness) l.number-iterator ≡ lines_like l.likeness l.text
