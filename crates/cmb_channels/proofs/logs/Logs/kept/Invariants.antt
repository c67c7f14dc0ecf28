use Rattle.std.proofs.Common.{◌≡◌, max, drop}
use Rattle.cmb_channels.proofs.Most.{most_at}
use Rattle.cmb_channels.proofs.logs.Logs.kept.Given as goal

abbrev pub invariant-loop-pin : goal.invariant-loop-pin
invariant-loop-pin l = max l.most (most_at l.self.lists (drop l.pin-index l.pin-items)) ≡ most_at l.self.lists l.pin-items
