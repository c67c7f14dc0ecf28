use Rattle.std.proofs.Common.{arith}
use Rattle.logic3.proofs.Rising.{Alternates-push}
use Rattle.logic3.proofs.waveform.Waveform.push.Goals as goal

pub invariant_of-self-2 : goal.invariant_of-self-2
invariant_of-self-2 c =
    rw c.in_ok-push.ensures.ok
    (Alternates-push c.self.inside.before 0 c.self.inside.changes c.args.change (omega arith) c.self.invariant
    (rw (← c.self.view_is) at c.requires.later) (rw (← c.self.view_is) at c.requires.differs))
