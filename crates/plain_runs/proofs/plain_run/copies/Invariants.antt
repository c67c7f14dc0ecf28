-- The waveforms of the nets so far.
use Rattle.std.proofs.Common.{◌≡◌, map, take}
use Rattle.prepared_runs.specs.Shown.{wave_at}
use Rattle.plain_runs.proofs.plain_run.copies.Given as goal

abbrev pub invariant-loop-net : goal.invariant-loop-net
invariant-loop-net l = l.copies.items ≡ map (wave_at l.waves) (take l.net-index l.nets)
