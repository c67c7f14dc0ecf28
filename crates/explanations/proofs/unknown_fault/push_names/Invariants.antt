-- The names so far are those before and those of the explanations so far.
use Rattle.std.proofs.Common.{◌≡◌, ◌++◌, map, take}
use Rattle.explanations.specs.UnknownFault.{names_in}
use Rattle.explanations.proofs.unknown_fault.push_names.Given as goal

abbrev pub invariant-loop-one : goal.invariant-loop-one
invariant-loop-one l =
    map (λ name. name.now) l.names.items ≡ map (λ name. name.now) l.initial.names.items ++ names_in (take l.one-index l.table)
