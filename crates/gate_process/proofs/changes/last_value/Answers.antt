use Rattle.std.proofs.Common.{rules}
use Rattle.logic3.proofs.CallerLemmas.{value_in_the_end-last}
use Rattle.gate_process.proofs.changes.last_value.Goals as goal

pub returns : goal.returns
returns c = rw (value_in_the_end-last c.args.before c.args.changes.now, ← c.last.ensures.value) (search rules)
