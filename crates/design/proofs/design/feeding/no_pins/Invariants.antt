use Rattle.std.proofs.Common.{◌≡◌, [], map, replicate}
use Rattle.design.proofs.design.feeding.no_pins.Given as goal

abbrev pub invariant-loop-net : goal.invariant-loop-net
invariant-loop-net l = map (λ v. v.items) l.fed.items ≡ replicate l._net []
