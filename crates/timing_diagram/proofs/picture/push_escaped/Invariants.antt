-- The bytes so far and those of the rest are all.
use Rattle.std.proofs.Common.{◌≡◌, ◌++◌, drop}
use Rattle.timing_diagram.specs.Picture.{escaped}
use Rattle.timing_diagram.proofs.picture.push_escaped.Given as goal

abbrev pub invariant-loop-byte : goal.invariant-loop-byte
invariant-loop-byte l = l.text.items ++ escaped (drop l.byte-index l.name) ≡ l.fn.text.items ++ escaped l.name
