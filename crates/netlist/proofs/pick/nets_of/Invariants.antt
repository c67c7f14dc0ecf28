use Rattle.std.proofs.Common.{◌≡◌, map, take}
use Rattle.netlist.specs.Pick.{picked_wiring}
use Rattle.netlist.specs.Joined.{seen_net}
use Rattle.netlist.proofs.pick.nets_of.Given as goal

-- the nets so far
abbrev pub invariant-loop-number : goal.invariant-loop-number
invariant-loop-number l = map seen_net l.nets.items ≡ map (picked_wiring l.netlist l.keep) (take l.number-index l.keep)
