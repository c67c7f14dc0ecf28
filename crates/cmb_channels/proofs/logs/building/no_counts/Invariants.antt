use Rattle.std.proofs.Common.{◌≡◌, replicate}
use Rattle.cmb_channels.proofs.logs.building.no_counts.Given as goal

abbrev pub invariant-loop-pin : goal.invariant-loop-pin
invariant-loop-pin l = l.counts.items ≡ replicate l._pin 0
