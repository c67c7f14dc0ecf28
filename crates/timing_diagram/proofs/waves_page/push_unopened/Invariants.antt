-- The bytes so far and those of the rest are all.
use Rattle.std.proofs.Common.{◌≡◌, ◌++◌, drop}
use Rattle.timing_diagram.specs.WavesPage.{unopened}
use Rattle.timing_diagram.proofs.waves_page.push_unopened.Given as goal

abbrev pub invariant-loop-byte : goal.invariant-loop-byte
invariant-loop-byte l = l.text.items ++ unopened (drop l.byte-index l.json) ≡ l.fn.text.items ++ unopened l.json
