-- It is known of the last bytes of the pattern, as many as there were steps.
use Rattle.std.proofs.Common.{◌≡◌, ◌+◌, ◌-◌, drop, length}
use Rattle.net_words.specs.Pattern.{has_pattern, passing}
use Rattle.net_words.proofs.pattern.has_pattern.Given as goal

abbrev pub invariant-loop-step : goal.invariant-loop-step
invariant-loop-step l = record {
  count : length l.ends.items ≡ length l.name + 1;
  known : l.ends.items ≡ passing (has_pattern (drop (length l.pattern - l.step) l.pattern)) l.name (length l.name + 1);
}
