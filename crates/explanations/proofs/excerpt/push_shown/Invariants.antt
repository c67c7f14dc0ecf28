-- What is told so far is what was told before and the bytes so far.
use Rattle.std.proofs.Common.{◌≡◌, ◌++◌, map, take}
use Rattle.explanations.specs.Excerpt.{shown_byte}
use Rattle.explanations.proofs.excerpt.push_shown.Given as goal

abbrev pub invariant-loop-byte : goal.invariant-loop-byte
invariant-loop-byte l =
    l.told.items ≡ l.initial.told.items ++ map shown_byte (take l.byte-index l.byte-items)
