-- The nets so far, and those of the lines left, are the nets of the text.
use Rattle.std.proofs.Common.{◌≡◌, ◌++◌, flat_map, map}
use Rattle.explanations.specs.Nets.{net_of_line, nets_in}
use Rattle.explanations.proofs.nets.nets_in.Given as goal

abbrev pub invariant-loop-code : goal.invariant-loop-code
invariant-loop-code l =
    map (λ net. net.now) l.nets.items ++ flat_map net_of_line l.code-iterator ≡ nets_in l.text
