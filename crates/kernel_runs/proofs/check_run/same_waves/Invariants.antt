-- All waveforms so far are the same.
use Rattle.std.proofs.Common.{◌≡◌}
use Rattle.kernel_runs.proofs.check_run.same_waves.Given as goal

abbrev pub invariant-loop-net : goal.invariant-loop-net
invariant-loop-net l = l.same ≡ l.net
