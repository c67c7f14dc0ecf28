-- The answer is the first of the names left that no line left defines.
use Rattle.std.proofs.Common.{◌≡◌, map, not}
use Rattle.std.specs.List.{find, list_any}
use Rattle.mistakes.specs.BenchLines.{defines}
use Rattle.explanations.specs.AtFault.{undefined_in}
use Rattle.explanations.proofs.undefined.undefined_in.Given as goal

abbrev pub invariant-loop-code : goal.invariant-loop-code
invariant-loop-code l =
    find (λ name. not (list_any (defines name) l.code-iterator)) (map (λ name. name.now) l.left.items) ≡ undefined_in l.code l.text
