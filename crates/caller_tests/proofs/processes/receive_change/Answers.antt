use Rattle.std.proofs.Common.{◌≡◌, false, arith, rules}
use Rattle.gate_process.proofs.CallerLemmas.{can_hear_change}
use Rattle.caller_tests.proofs.processes.receive_change.Goals as goal

pub receive-answer-requires-clause-can_hear : goal.receive-answer-requires-clause-can_hear
receive-answer-requires-clause-can_hear g c =
    let runs : c.args.process.now.failed ≡ false = search rules in
    let end = c.end-end.ensures.end in
    can_hear_change c.args.process.now.state c.args.place c.received-received.result c.last-last.result c.args.change
    (c.is_failed.ensures.well_formed runs) c.received-received.ensures c.last-last.ensures (omega arith) (omega arith) (search rules)
