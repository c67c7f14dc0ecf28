-- The numbers of the doubtful lines so far.
use Rattle.std.proofs.Common.{◌≡◌, ◌+◌, filter, map}
use Rattle.std.specs.List.{range_with_len}
use Rattle.plain_runs.specs.Lines.{is_doubtful_at}
use Rattle.plain_runs.proofs.doubt.doubtful_numbers.Given as goal

abbrev pub invariant-loop-place : goal.invariant-loop-place
invariant-loop-place l =
    l.numbers.items ≡ map (λ place. place + 1) (filter (is_doubtful_at l.doubt l.design (map (λ line. line.now) l.lines)) (range_with_len 0 l.place))
