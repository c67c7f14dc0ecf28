use Rattle.std.proofs.Common.{◌≡◌, map, take}
use Rattle.design.specs.PickedDesign.{net_in}
use Rattle.design.proofs.design.pick.timings_of.Given as goal

-- the timings and the wire delays so far
abbrev pub invariant-loop-net : goal.invariant-loop-net
invariant-loop-net l = record {
  timings : l.timings.items ≡ map (λ number. (net_in l.design.circuit number).timing) (take l.net-index l.nets);
  wires : l.wires ≡ map (λ number. (net_in l.design.circuit number).wires) (take l.net-index l.nets);
}
