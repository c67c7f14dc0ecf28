use Rattle.std.proofs.Common.{◌≡◌, ℕ, ◌==◌, ◌<◌, length, take, false, get_or}
use Rattle.std.specs.List.{list_any}
use Rattle.netlist.specs.Repeats.{distinct}
use Rattle.netlist.proofs.repeats.without_repeats.Given as goal

abbrev pub invariant-loop-number : goal.invariant-loop-number
invariant-loop-number l = record {
  bound : length l.is_kept.items ≡ l.bound;
  kept : l.kept.items ≡ distinct (take l.number-index l.numbers);
  known : (n : ℕ) → n < l.bound → get_or l.is_kept.items n false ≡ list_any (λ m. n == m) (take l.number-index l.numbers);
}
