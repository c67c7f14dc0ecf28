-- It is known of the numbers so far.
use Rattle.std.proofs.Common.{◌≡◌, ◌+◌, ℕ, Bool, List, length}
use Rattle.net_words.specs.Pattern.{passing, takes}
use Rattle.net_words.proofs.pattern.one_more.Given as goal

abbrev pub invariant-loop-left : goal.invariant-loop-left
invariant-loop-left l = record {
  count : length l.more.items ≡ l.left;
  known : (passes : List ℕ → Bool) → l.ends ≡ passing passes l.name (length l.name + 1) → l.more.items ≡ passing (takes l.byte passes) l.name l.left;
}
