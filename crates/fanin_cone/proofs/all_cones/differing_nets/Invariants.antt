use Rattle.fanin_cone.specs.AgreeingCones.{AreDiffering}
use Rattle.fanin_cone.proofs.all_cones.differing_nets.Given as goal

abbrev pub invariant-loop-net : goal.invariant-loop-net
invariant-loop-net l = AreDiffering l.first l.second l.horizon l.net l.nets.items
