-- The text so far is the hints in the tables so far.
use Rattle.std.proofs.Common.{◌≡◌, flat_map, string_bytes, take}
use Rattle.explanations.specs.AtHand.{hints_in}
use Rattle.explanations.proofs.at_hand.hints_text.Given as goal

abbrev pub invariant-loop-table : goal.invariant-loop-table
invariant-loop-table l =
    string_bytes l.text ≡ flat_map (hints_in l.subject l.name) (take l.table-index l.tables)
