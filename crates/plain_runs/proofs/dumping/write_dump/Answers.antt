use Rattle.std.proofs.Common.{subst}
use Rattle.std.specs.Io.KnownBytes.{Appends}
use Rattle.std.proofs.lemmas.Result.{err_from_is_err_and}
use Rattle.texts.specs.Written.{AppendsPrefix}
use Rattle.prepared_runs.proofs.CallerLemmas.{BreaksOff-dump, All-shown_nets, AllPairs-shown_nets, All-before, All-within, dump_of_design-waves}
use Rattle.plain_runs.proofs.dumping.write_dump.Goals as goal

pub dump-requires-clause-shown_exist : goal.dump-requires-clause-shown_exist
dump-requires-clause-shown_exist g c = rw c.requires.nets (All-shown_nets c.args.view.now.show c.args.design.now c.requires.well_formed)

pub dump-requires-clause-shown_once : goal.dump-requires-clause-shown_once
dump-requires-clause-shown_once g c = rw c.requires.nets (AllPairs-shown_nets c.args.view.now.show c.args.design.now c.requires.well_formed)

pub dump-requires-clause-unknown_before : goal.dump-requires-clause-unknown_before
dump-requires-clause-unknown_before g c = rw c.requires.waves (All-before c.args.design.now.circuit c.args.horizon c.args.nets.now)

pub dump-requires-clause-within_horizon : goal.dump-requires-clause-within_horizon
dump-requires-clause-within_horizon g c = rw c.requires.waves (All-within c.args.design.now.circuit c.args.horizon c.args.nets.now)

pub returns-in_err-dump-clause-err : goal.returns-in_err-dump-clause-err
returns-in_err-dump-clause-err g c =
    let p = err_from_is_err_and c.from_residual.result c.from_residual.ensures.1 in
    let text = dump_of_design-waves c.args.view.now c.args.horizon c.args.design.now c.args.nets.now c.args.waves.now c.requires.nets c.requires.waves in
    rw (p.1, p.2) (BreaksOff-dump _ _ _ _ c.in_err-dump.ensures.fault (subst (AppendsPrefix _ _) text c.in_err-dump.ensures.err))

pub returns-clause-ok : goal.returns-clause-ok
returns-clause-ok g c =
    let text = dump_of_design-waves c.args.view.now c.args.horizon c.args.design.now c.args.nets.now c.args.waves.now c.requires.nets c.requires.waves in
    subst (Appends _ _) text c.in_ok-dump.ensures.ok
