-- The digits so far and those to come are all.
use Rattle.std.proofs.Common.{◌≡◌, ◌++◌, ◌-◌, map}
use Rattle.std.specs.List.{range_with_len}
use Rattle.logic3.specs.Wave.{value_at}
use Rattle.timing_diagram.specs.Bus.{digit_at, digits}
use Rattle.timing_diagram.proofs.digits.push_digits.Given as goal

abbrev pub invariant-loop-place : goal.invariant-loop-place
invariant-loop-place l =
    l.text.items ++ map (λ place. digit_at (map value_at l.bits) l.tick (l.count - 1 - place)) (range_with_len l.place (l.count - l.place))
    ≡ l.fn.text.items ++ digits (map value_at l.bits) l.tick
