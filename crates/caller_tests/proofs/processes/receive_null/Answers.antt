use Rattle.std.proofs.Common.{◌≡◌, false, arith, rules}
use Rattle.gate_process.proofs.CallerLemmas.{can_hear_null}
use Rattle.caller_tests.proofs.processes.receive_null.Goals as goal

pub receive-requires-clause-can_hear : goal.receive-requires-clause-can_hear
receive-requires-clause-can_hear g c =
    let runs : c.args.process.now.failed ≡ false = search rules in
    let end = c.end-end.ensures.end in
    can_hear_null c.args.process.now.state c.args.place c.received-received.result c.args.bound
    (c.is_failed.ensures.well_formed runs) c.received-received.ensures (omega arith) (omega arith)
