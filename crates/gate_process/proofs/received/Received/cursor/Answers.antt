use Rattle.logic3.specs.declared.value.Value.TheVariants.{Unknown}
use Rattle.logic3.proofs.CallerLemmas.{AllPairs-Alternates}
use Rattle.gate_process.proofs.Passed.{rise_with}
use Rattle.gate_process.proofs.received.Received.cursor.Goals as goal

pub received-requires-clause-rise : goal.received-requires-clause-rise
received-requires-clause-rise c =
    rw (c.as_slice.ensures, c.from-frontier.ensures)
    (rise_with c.self.inside.changes c.self.inside.frontier Unknown
    (AllPairs-Alternates c.self.inside.before 0 c.self.inside.changes c.self.invariant.known.wave) c.self.invariant.known.past)
