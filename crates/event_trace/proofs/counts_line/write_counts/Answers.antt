use Rattle.std.proofs.Common.{codes}
use Rattle.std.proofs.KnownBytes.{Appends-trans}
use Rattle.std.proofs.lemmas.Result.{err_from_is_err_and}
use Rattle.texts.proofs.CallerLemmas.{Appends-numbered, AppendsPrefix-after, AppendsPrefix-numbered}
use Rattle.event_trace.proofs.CountsLine.{changes_broken, events_broken, nulls_broken, rounds_broken, upto_changes, upto_events, upto_nulls, upto_rounds}
use Rattle.event_trace.proofs.counts_line.write_counts.Goals as goal

pub returns-in_err-write_numbered-clause-err : goal.returns-in_err-write_numbered-clause-err
returns-in_err-write_numbered-clause-err g c =
    let held = g.W.Write.contents in
    let p = err_from_is_err_and c.from_residual.result c.from_residual.ensures.1 in
    rw p.1 (events_broken (held c.args.out.now) (held c.write_numbered.new.out) c.args.counts c.in_err-write_numbered.ensures.err)

pub returns-in_err-write_numbered-2-clause-err : goal.returns-in_err-write_numbered-2-clause-err
returns-in_err-write_numbered-2-clause-err g c =
    let held = g.W.Write.contents in
    let counts = c.args.counts in
    let p = err_from_is_err_and c.from_residual-in_err-write_numbered-2.result c.from_residual-in_err-write_numbered-2.ensures.1 in
    rw p.1 (changes_broken (held c.args.out.now) (held c.write_numbered-2.new.out) counts
    (AppendsPrefix-numbered (held c.args.out.now) (held c.write_numbered.new.out) (held c.write_numbered-2.new.out) (upto_events counts) (codes " changes ") counts.changes
    c.in_ok-write_numbered.ensures.ok c.in_err-write_numbered-2.ensures.err))

pub returns-in_err-write_numbered-3-clause-err : goal.returns-in_err-write_numbered-3-clause-err
returns-in_err-write_numbered-3-clause-err g c =
    let held = g.W.Write.contents in
    let counts = c.args.counts in
    let p = err_from_is_err_and c.from_residual-in_err-write_numbered-3.result c.from_residual-in_err-write_numbered-3.ensures.1 in
    let changes = Appends-numbered (held c.args.out.now) (held c.write_numbered.new.out) (held c.write_numbered-2.new.out) (upto_events counts) (codes " changes ")
    counts.changes c.in_ok-write_numbered.ensures.ok c.in_ok-write_numbered-2.ensures.ok in
    rw p.1 (nulls_broken (held c.args.out.now) (held c.write_numbered-3.new.out) counts
    (AppendsPrefix-numbered (held c.args.out.now) (held c.write_numbered-2.new.out) (held c.write_numbered-3.new.out) (upto_changes counts) (codes " nulls ") counts.nulls
    changes c.in_err-write_numbered-3.ensures.err))

pub returns-in_err-write_numbered-4-clause-err : goal.returns-in_err-write_numbered-4-clause-err
returns-in_err-write_numbered-4-clause-err g c =
    let held = g.W.Write.contents in
    let counts = c.args.counts in
    let p = err_from_is_err_and c.from_residual-in_err-write_numbered-4.result c.from_residual-in_err-write_numbered-4.ensures.1 in
    let changes = Appends-numbered (held c.args.out.now) (held c.write_numbered.new.out) (held c.write_numbered-2.new.out) (upto_events counts) (codes " changes ")
    counts.changes c.in_ok-write_numbered.ensures.ok c.in_ok-write_numbered-2.ensures.ok in
    let nulls = Appends-numbered (held c.args.out.now) (held c.write_numbered-2.new.out) (held c.write_numbered-3.new.out) (upto_changes counts) (codes " nulls ")
    counts.nulls changes c.in_ok-write_numbered-3.ensures.ok in
    rw p.1 (rounds_broken (held c.args.out.now) (held c.write_numbered-4.new.out) counts
    (AppendsPrefix-numbered (held c.args.out.now) (held c.write_numbered-3.new.out) (held c.write_numbered-4.new.out) (upto_nulls counts) (codes " rounds ") counts.rounds
    nulls c.in_err-write_numbered-4.ensures.err))

pub returns-in_err-write_all_bytes-clause-err : goal.returns-in_err-write_all_bytes-clause-err
returns-in_err-write_all_bytes-clause-err g c =
    let held = g.W.Write.contents in
    let counts = c.args.counts in
    let p = err_from_is_err_and c.from_residual-in_err-write_all_bytes.result c.from_residual-in_err-write_all_bytes.ensures.1 in
    let changes = Appends-numbered (held c.args.out.now) (held c.write_numbered.new.out) (held c.write_numbered-2.new.out) (upto_events counts) (codes " changes ")
    counts.changes c.in_ok-write_numbered.ensures.ok c.in_ok-write_numbered-2.ensures.ok in
    let nulls = Appends-numbered (held c.args.out.now) (held c.write_numbered-2.new.out) (held c.write_numbered-3.new.out) (upto_changes counts) (codes " nulls ")
    counts.nulls changes c.in_ok-write_numbered-3.ensures.ok in
    let rounds = Appends-numbered (held c.args.out.now) (held c.write_numbered-3.new.out) (held c.write_numbered-4.new.out) (upto_nulls counts) (codes " rounds ")
    counts.rounds nulls c.in_ok-write_numbered-4.ensures.ok in
    rw p.1 (AppendsPrefix-after (held c.args.out.now) (held c.write_numbered-4.new.out) (held c.write_all_bytes.new.out) (upto_rounds counts) (codes "\n") rounds
    c.in_err-write_all_bytes.ensures.err)

pub returns-clause-ok : goal.returns-clause-ok
returns-clause-ok g c =
    let held = g.W.Write.contents in
    let counts = c.args.counts in
    let changes = Appends-numbered (held c.args.out.now) (held c.write_numbered.new.out) (held c.write_numbered-2.new.out) (upto_events counts) (codes " changes ")
    counts.changes c.in_ok-write_numbered.ensures.ok c.in_ok-write_numbered-2.ensures.ok in
    let nulls = Appends-numbered (held c.args.out.now) (held c.write_numbered-2.new.out) (held c.write_numbered-3.new.out) (upto_changes counts) (codes " nulls ")
    counts.nulls changes c.in_ok-write_numbered-3.ensures.ok in
    let rounds = Appends-numbered (held c.args.out.now) (held c.write_numbered-3.new.out) (held c.write_numbered-4.new.out) (upto_nulls counts) (codes " rounds ")
    counts.rounds nulls c.in_ok-write_numbered-4.ensures.ok in
    Appends-trans (held c.args.out.now) (held c.write_numbered-4.new.out) (held c.write_all_bytes.new.out) (upto_rounds counts) (codes "\n") rounds
    c.in_ok-write_all_bytes.ensures.ok
