-- The bits so far pass.
use Rattle.std.proofs.Common.{◌≡◌, map, take, true}
use Rattle.std.specs.List.{list_all}
use Rattle.logic3.specs.Wave.{value_at}
use Rattle.timing_diagram.specs.Marks.{shows_value}
use Rattle.timing_diagram.proofs.spans.shows_bits.Given as goal

abbrev pub invariant-loop-bit : goal.invariant-loop-bit
invariant-loop-bit l = list_all (λ bit. shows_value bit l.columns l.column) (map value_at (take l.bit-index l.bits)) ≡ true
