-- The numbers so far.
use Rattle.std.proofs.Common.{◌≡◌, ◌++◌, take}
use Rattle.plain_runs.specs.Text.{numbers_behind}
use Rattle.plain_runs.proofs.text.push_numbers.Given as goal

abbrev pub invariant-loop-number : goal.invariant-loop-number
invariant-loop-number l = l.text.items ≡ l.fn.text.items ++ numbers_behind (take l.number-index l.numbers)
