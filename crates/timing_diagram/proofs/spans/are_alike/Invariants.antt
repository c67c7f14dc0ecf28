-- The bits so far pass.
use Rattle.std.proofs.Common.{◌≡◌, map, take, true}
use Rattle.std.specs.List.{list_all}
use Rattle.logic3.specs.Wave.{value_at}
use Rattle.timing_diagram.specs.Bus.{shows_same}
use Rattle.timing_diagram.proofs.spans.are_alike.Given as goal

abbrev pub invariant-loop-bit : goal.invariant-loop-bit
invariant-loop-bit l = list_all (shows_same l.columns l.column l.other) (map value_at (take l.bit-index l.bits)) ≡ true
