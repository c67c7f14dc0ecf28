-- The names so far are those of the tables so far.
use Rattle.std.proofs.Common.{◌≡◌, map, take}
use Rattle.explanations.specs.UnknownFault.{fault_names}
use Rattle.explanations.proofs.unknown_fault.fault_names.Given as goal

abbrev pub invariant-loop-table : goal.invariant-loop-table
invariant-loop-table l =
    map (λ name. name.now) l.names.items ≡ fault_names (take l.table-index l.tables)
