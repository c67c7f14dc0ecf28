-- No net so far is a flip-flop.
use Rattle.std.proofs.Common.{◌≡◌, false, take}
use Rattle.std.specs.List.{list_any}
use Rattle.netlist.specs.Netlist.{NetView}
use Rattle.netlist.specs.Part.{is_flop}
use Rattle.plain_runs.proofs.unused.has_flops.Given as goal

abbrev pub invariant-loop-net : goal.invariant-loop-net
invariant-loop-net l = list_any (λ (net : NetView). is_flop net.part) (take l.net l.netlist.nets) ≡ false
