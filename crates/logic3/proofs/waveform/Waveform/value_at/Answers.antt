use Rattle.logic3.proofs.Waves.{AllPairs-Alternates}
use Rattle.logic3.proofs.waveform.Waveform.value_at.Goals as goal

pub value_after-requires : goal.value_after-requires
value_after-requires c =
    rw c.as_slice.ensures (AllPairs-Alternates c.self.inside.before 0 c.self.inside.changes c.self.invariant)
