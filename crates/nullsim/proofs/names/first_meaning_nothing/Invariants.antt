-- The words so far mean nets.
use Rattle.std.proofs.Common.{◌≡◌, drop}
use Rattle.std.specs.List.{find}
use Rattle.netlist.specs.Names.{seen_names}
use Rattle.nullsim.specs.AtFault.{means_nothing}
use Rattle.nullsim.proofs.names.first_meaning_nothing.Given as goal

abbrev pub invariant-loop-word : goal.invariant-loop-word
invariant-loop-word l =
    find (means_nothing l.netlist) (drop l.word-index (seen_names l.words)) ≡ find (means_nothing l.netlist) (seen_names l.words)
