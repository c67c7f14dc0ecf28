use Rattle.std.proofs.Common.{◌≡◌, ◌++◌, length, option_map}
use Rattle.bench_text.specs.Line.{more_names}
use Rattle.netlist.specs.Names.{seen_names}
use Rattle.bench_text.proofs.statement.more_names.Given as goal

abbrev pub invariant-loop-names : goal.invariant-loop-names
invariant-loop-names l =
    option_map (λ more. seen_names l.names.items ++ more) (more_names l.tokens)
    ≡ option_map (λ more. seen_names l.initial.names.items ++ more) (more_names l.initial.tokens)

abbrev pub decreases-loop-names : goal.decreases-loop-names
decreases-loop-names l = length l.tokens
