use Rattle.std.proofs.Common.{◌≡◌, ℕ, ◌+◌, ◌-◌}
use Rattle.std.specs.Option.{IfSome, option_map_or}
use Rattle.logic3.specs.Wave.{value_at, IsBefore}
use Rattle.wave_diff.specs.Compared.{IsCompared}
use Rattle.wave_diff.proofs.difference.first_difference.Given as goal

-- the two show the same at each compared tick before the next one
abbrev pub invariant-loop-next : goal.invariant-loop-next
invariant-loop-next l = record {
  passed : (at : ℕ) → IsCompared l.compared at → IsBefore at l.next → value_at l.first at ≡ value_at l.second at;
  next : IfSome l.next (IsCompared l.compared);
}

abbrev pub decreases-loop-next : goal.decreases-loop-next
decreases-loop-next l = option_map_or (λ tick. l.compared.to + 1 - tick) l.next 0
