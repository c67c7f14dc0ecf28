-- The longest path to the net at hand and the nets after it are the longest path to the end.
use Rattle.std.proofs.Common.{ℕ, ◌<◌, ◌++◌, List, length, reverse}
use Rattle.circuit_info.specs.Paths.{longest_to}
use Rattle.circuit_info.specs.PathText.{IsLongestPath}
use Rattle.circuit_info.proofs.path_nets.path_to.Given as goal

abbrev pub invariant-loop-path : goal.invariant-loop-path
invariant-loop-path l = record {
  below : l.net < length l.design.netlist.nets;
  leads : (path : List ℕ) → IsLongestPath l.design l.net path → IsLongestPath l.design l.end (path ++ reverse l.path.items);
}

abbrev pub decreases-loop-path : goal.decreases-loop-path
decreases-loop-path l = longest_to l.design l.net
