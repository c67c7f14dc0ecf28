use Rattle.std.proofs.Common.{rules}
use Rattle.logic3.specs.Wave.{changes_until}
use Rattle.logic3.proofs.Rising.{value_after-until, value_in_the_end-last}
use Rattle.logic3.proofs.change.value_after.Goals as goal

pub returns : goal.returns
returns c =
    rw (
      value_after-until c.args.before c.args.changes.now c.args.tick,
      value_in_the_end-last c.args.before (changes_until c.args.tick c.args.changes.now),
      ← c.changes_until.ensures,
      ← c.last.ensures.value,
    )
    (search rules)
