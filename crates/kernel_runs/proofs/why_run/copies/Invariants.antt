-- The waveforms of the nets so far are there.
use Rattle.std.proofs.Common.{◌≡◌}
use Rattle.std.specs.List.{range_with_len}
use Rattle.prepared_runs.specs.Shown.{waves_up_to}
use Rattle.kernel_runs.proofs.why_run.copies.Given as goal

abbrev pub invariant-loop-net : goal.invariant-loop-net
invariant-loop-net l = l.waves.items ≡ waves_up_to l.run.design.circuit l.run.horizon (range_with_len 0 l.net)
