use Rattle.std.proofs.Common.{rules}
use Rattle.logic3.specs.Wave.{changes_until}
use Rattle.causes.proofs.LastTicks.{tick_in_the_end-last}
use Rattle.causes.proofs.deciding.last_tick.Goals as goal

pub returns : goal.returns
returns c =
    rw (tick_in_the_end-last (changes_until c.args.tick c.args.changes.now), ← c.changes_until.ensures, ← c.last.ensures.value)
    (search rules)
