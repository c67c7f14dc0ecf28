-- It is known of the numbers so far.
use Rattle.std.proofs.Common.{◌≡◌}
use Rattle.texts.specs.Text.{is_empty}
use Rattle.net_words.specs.Pattern.{passing}
use Rattle.net_words.proofs.pattern.none_left.Given as goal

abbrev pub invariant-loop-left : goal.invariant-loop-left
invariant-loop-left l = l.none.items ≡ passing is_empty l.name l.left
