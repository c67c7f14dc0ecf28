use Rattle.std.proofs.Common.{◌≡◌, map, take}
use Rattle.std.specs.Option.{unwrap_or}
use Rattle.timing_text.proofs.given.NetGiven.wires.Given as goal

-- the delays so far
abbrev pub invariant-loop-wire : goal.invariant-loop-wire
invariant-loop-wire l = l.wires.items ≡ map (λ wire. unwrap_or wire 0) (take l.wire-index l.self.wires.items)
