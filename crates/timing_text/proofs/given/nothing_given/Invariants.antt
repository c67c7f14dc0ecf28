use Rattle.std.proofs.Common.{◌≡◌, [], map, take}
use Rattle.timing_text.specs.GivenSoFar.{given_to_net, seen_given}
use Rattle.timing_text.proofs.given.nothing_given.Given as goal

abbrev pub invariant-loop-net : goal.invariant-loop-net
invariant-loop-net l = map seen_given l.given.items ≡ map (given_to_net []) (take l.net l.netlist.nets)
