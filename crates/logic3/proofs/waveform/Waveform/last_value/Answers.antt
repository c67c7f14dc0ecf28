use Rattle.std.proofs.Common.{rules}
use Rattle.logic3.proofs.Rising.{value_in_the_end-last}
use Rattle.logic3.proofs.waveform.Waveform.last_value.Goals as goal

pub returns : goal.returns
returns c =
    rw (← c.self.view_is, value_in_the_end-last c.self.inside.before c.self.inside.changes, ← c.as_slice.ensures, ← c.last.ensures.value)
    (search rules)
