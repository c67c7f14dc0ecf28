-- Those so far whose names have the pattern.
use Rattle.std.proofs.Common.{◌≡◌, filter}
use Rattle.std.specs.List.{range_with_len}
use Rattle.netlist.specs.Netlist.{name_at}
use Rattle.net_words.specs.Pattern.{has_pattern}
use Rattle.net_words.proofs.listed.nets_like.Given as goal

abbrev pub invariant-loop-net : goal.invariant-loop-net
invariant-loop-net l = l.nets.items ≡ filter (λ net. has_pattern l.pattern (name_at l.netlist net)) (range_with_len 0 l.net)
