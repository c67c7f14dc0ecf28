-- The text so far is the one before and the names so far.
use Rattle.std.proofs.Common.{◌≡◌, ◌++◌, flat_map, string_bytes, take}
use Rattle.explanations.specs.Explained.{name_behind}
use Rattle.explanations.proofs.telling.push_each.Given as goal

abbrev pub invariant-loop-one : goal.invariant-loop-one
invariant-loop-one l =
    string_bytes l.text ≡ string_bytes l.initial.text ++ flat_map name_behind (take l.one-index l.table)
