-- The columns so far show the same.
use Rattle.std.proofs.Common.{◌≡◌, ◌+◌, ◌-◌, map, not}
use Rattle.std.specs.List.{position_or_len, range_with_len}
use Rattle.logic3.specs.Wave.{value_at}
use Rattle.timing_diagram.specs.Bus.{are_alike, lasting}
use Rattle.timing_diagram.proofs.spans.lasting.Given as goal

abbrev pub invariant-loop-later : goal.invariant-loop-later
invariant-loop-later l =
    l.later - l.column + position_or_len (λ other. not (are_alike (map value_at l.bits) l.columns l.column other)) (range_with_len l.later (l.count - l.later))
    ≡ lasting (map value_at l.bits) l.columns l.column
