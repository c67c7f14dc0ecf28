-- The text so far is the one before and what the explanations so far tell.
use Rattle.std.proofs.Common.{◌≡◌, ◌++◌, string_bytes, take}
use Rattle.explanations.specs.Explained.{told_of}
use Rattle.explanations.proofs.telling.push_called.Given as goal

abbrev pub invariant-loop-one : goal.invariant-loop-one
invariant-loop-one l =
    string_bytes l.text ≡ string_bytes l.initial.text ++ told_of l.subject l.name (take l.one-index l.table)
