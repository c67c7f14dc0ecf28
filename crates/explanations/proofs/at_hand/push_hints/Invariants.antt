-- The text so far is the one before and the hints so far.
use Rattle.std.proofs.Common.{◌≡◌, ◌++◌, flat_map, string_bytes, take}
use Rattle.explanations.specs.AtHand.{hint_if_called}
use Rattle.explanations.proofs.at_hand.push_hints.Given as goal

abbrev pub invariant-loop-one : goal.invariant-loop-one
invariant-loop-one l =
    string_bytes l.text ≡ string_bytes l.initial.text ++ flat_map (hint_if_called l.subject l.name) (take l.one-index l.table)
