-- The ticks so far are reckoned, and reported.
use Rattle.std.proofs.Common.{◌≡◌, ◌+◌}
use Rattle.std.specs.List.{range_with_len}
use Rattle.design.specs.Equations.{waves_of}
use Rattle.plain_runs.proofs.plain_run.all_waves.Given as goal

abbrev pub invariant-loop-tick : goal.invariant-loop-tick
invariant-loop-tick g l = record {
  waves : l.waves.items ≡ waves_of l.design.circuit l.tick;
  reported : g.P.Progress.reports l.horizon l.fn.progress (range_with_len 0 (l.tick + 1)) l.progress;
}
