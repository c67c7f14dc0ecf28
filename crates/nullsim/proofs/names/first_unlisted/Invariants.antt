-- The words so far mean nets.
use Rattle.std.proofs.Common.{◌≡◌, drop}
use Rattle.std.specs.List.{find}
use Rattle.netlist.specs.Names.{seen_names}
use Rattle.nullsim.specs.AtFault.{in_neither}
use Rattle.nullsim.proofs.names.first_unlisted.Given as goal

abbrev pub invariant-loop-word : goal.invariant-loop-word
invariant-loop-word l =
    find (in_neither l.one l.other) (drop l.word-index (seen_names l.words)) ≡ find (in_neither l.one l.other) (seen_names l.words)
