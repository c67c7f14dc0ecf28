use Rattle.logic3.proofs.CallerLemmas.{OnErr_always}
use Rattle.event_trace.proofs.WholeTrace.{counts_missing, events_broken, last_broken, rounds_broken, steps_undrained, trace_sent}
use Rattle.event_trace.proofs.tracing.trace_kernel.Goals as goal

pub returns-in_err-walk-clause-err : goal.returns-in_err-walk-clause-err
returns-in_err-walk-clause-err g c =
    let held = g.W.Write.contents in
    OnErr_always c.from_residual.result
    (events_broken c.args.shown c.args.design.now.circuit c.args.kernel.now c.args.events.now (held c.args.out.now) (held c.walk.new.out) c.new-text.result.items
    c.new-text.ensures.items c.in_err-walk.ensures.err)

pub walk_rounds-requires-clause-undrained : goal.walk_rounds-requires-clause-undrained
walk_rounds-requires-clause-undrained g c =
    steps_undrained c.args.kernel.now c.walk.new.kernel c.args.events.now c.in_ok-walk.ensures.state c.requires.undrained

pub returns-in_err-counts-clause-err : goal.returns-in_err-counts-clause-err
returns-in_err-counts-clause-err g c =
    let held = g.W.Write.contents in
    OnErr_always c.from_residual-in_err-counts.result
    (rounds_broken c.args.shown c.args.design.now.circuit c.args.kernel.now c.walk.new.kernel c.args.events.now c.in_ok-walk.ensures.state
    (held c.args.out.now) (held c.walk.new.out) c.new-text.result.items c.walk.new.text.items c.new-text.ensures.items c.in_ok-walk.ensures.ok
    (held c.walk_rounds.new.out) c.in_err-counts.ensures.err)

pub returns-in_err-push_counts-clause-err : goal.returns-in_err-push_counts-clause-err
returns-in_err-push_counts-clause-err g c =
    let held = g.W.Write.contents in
    OnErr_always c.from_residual-in_err-push_counts.result
    (counts_missing c.args.shown c.args.design.now.circuit c.args.kernel.now c.walk.new.kernel c.args.events.now c.in_ok-walk.ensures.state
    (held c.args.out.now) (held c.walk.new.out) c.new-text.result.items c.walk.new.text.items c.new-text.ensures.items c.in_ok-walk.ensures.ok
    (held c.walk_rounds.new.out) c.walk_rounds.new.text.items c.in_ok-counts.ensures.ok)

pub returns-in_err-write_all_bytes-clause-err : goal.returns-in_err-write_all_bytes-clause-err
returns-in_err-write_all_bytes-clause-err g c =
    let held = g.W.Write.contents in
    OnErr_always c.from_residual-in_err-write_all_bytes.result
    (last_broken c.args.shown c.args.design.now.circuit c.args.kernel.now c.walk.new.kernel c.args.events.now c.in_ok-walk.ensures.state
    (held c.args.out.now) (held c.walk.new.out) c.new-text.result.items c.walk.new.text.items c.new-text.ensures.items c.in_ok-walk.ensures.ok
    (held c.walk_rounds.new.out) c.walk_rounds.new.text.items c.in_ok-counts.ensures.ok
    (held c.write_all_bytes.new.out) c.push_counts.new.text.items c.as_slice.result.now c.in_ok-counts.counts c.in_ok-counts.ensures.counts
    c.in_ok-push_counts.ensures c.as_slice.ensures.value c.in_err-write_all_bytes.ensures.err)

pub returns-clause-ok : goal.returns-clause-ok
returns-clause-ok g c =
    let held = g.W.Write.contents in
    trace_sent c.args.shown c.args.design.now.circuit c.args.kernel.now c.walk.new.kernel c.args.events.now c.in_ok-walk.ensures.state
    (held c.args.out.now) (held c.walk.new.out) c.new-text.result.items c.walk.new.text.items c.new-text.ensures.items c.in_ok-walk.ensures.ok
    (held c.walk_rounds.new.out) c.walk_rounds.new.text.items c.in_ok-counts.ensures.ok
    (held c.write_all_bytes.new.out) c.push_counts.new.text.items c.as_slice.result.now c.in_ok-counts.counts c.in_ok-counts.ensures.counts
    c.in_ok-push_counts.ensures c.as_slice.ensures.value c.in_ok-write_all_bytes.ensures.ok
