-- The nets that the lines so far give delays are marked.
use Rattle.std.proofs.Common.{map, take}
use Rattle.plain_runs.specs.Lines.{MarkDelayed}
use Rattle.plain_runs.proofs.doubt.delayed_nets.Given as goal

abbrev pub invariant-loop-line : goal.invariant-loop-line
invariant-loop-line l = MarkDelayed l.design (take l.line-index (map (λ line. line.now) l.lines)) l.marks.items
