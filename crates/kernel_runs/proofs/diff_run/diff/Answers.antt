use Rattle.std.proofs.Common.{◌≡◌, ◌≤◌, length, All, Result, Ok, Err, sym, ap, subst, ◌∙◌}
use Rattle.std.proofs.lemmas.Result.{err_from_is_err_and, IfErr-at_err, IfOk-at_ok}
use Rattle.cmb_events.specs.Schedule.{most_events, Exists}
use Rattle.netlist.specs.Names.{seen_names}
use Rattle.prepared_runs.specs.declared.preparation.PreparedRun.{PreparedRun}
use Rattle.prepared_runs.specs.declared.fault.SimFault.TheVariants.{Memory}
use Rattle.wave_diff.specs.declared.comparison.Side.TheVariants.{First, Second}
use Rattle.kernel_runs.specs.declared.twin_run.TwinFault.{TwinFault}
use Rattle.kernel_runs.specs.declared.diff_fault.DiffFault.{DiffFault}
use Rattle.kernel_runs.specs.declared.diff_fault.DiffFault.TheVariants.{Run}
use Rattle.kernel_runs.specs.Diffs.{IsDiff, IsDiffRefusal, Pair, pair_in, pair_of}
use Rattle.kernel_runs.specs.Twins.{on}
use Rattle.prepared_runs.specs.Ends.{IsRefusal}
use Rattle.prepared_runs.specs.Source.{seen_source, MayWantMemory}
use Rattle.prepared_runs.specs.Prepared.{run_of_source, seen_run}
use Rattle.kernel_runs.proofs.Diffs.{IsDiffRefusal-lifted, IsDiffRefusal-run, IsDiffRefusal-ticks, IsOkAnd-run, pair_of-bad_first, pair_of-bad_second, pair_of-bad_ticks, pair_of-in}
use Rattle.prepared_runs.proofs.CallerLemmas.{ready_of_run}
use Rattle.kernel_runs.proofs.Completed.{run_completes}
use Rattle.kernel_runs.proofs.Twins.{CanCompare-made}
use Rattle.kernel_runs.proofs.diff_run.diff.Goals as goal

pub returns-in_err-compared-clause-err : goal.returns-in_err-compared-clause-err
returns-in_err-compared-clause-err c =
    let p = err_from_is_err_and c.from_residual.result c.from_residual.ensures.1 in
    let first = seen_source c.args.first.now in
    let second = seen_source c.args.second.now in
    let names = seen_names c.args.words.now in
    let ticks = c.args.ticks in
    let bad = sym c.in_err-compared.ensures.exact in
    rw (p.1, p.2) (IsDiffRefusal-ticks ticks (pair_of first second names ticks) _ bad (pair_of-bad_ticks first second names ticks _ bad))

pub returns-in_err-one-clause-err : goal.returns-in_err-one-clause-err
returns-in_err-one-clause-err c =
    let p = err_from_is_err_and c.from_residual-in_err-one.result c.from_residual-in_err-one.ensures.1 in
    let first = seen_source c.args.first.now in
    let second = seen_source c.args.second.now in
    let names = seen_names c.args.words.now in
    let ticks = c.args.ticks in
    rw (p.1, p.2) (IsDiffRefusal-lifted (pair_of first second names ticks) (run_of_source first ticks.horizon) First _ c.in_err-one.ensures.side
    (pair_of-bad_first first second names ticks _ (sym c.in_ok-compared.ensures.exact))
    (IfErr-at_err (IsRefusal (run_of_source first ticks.horizon)) c.in_err-one.ensures.err c.prepare_run.ensures.err))

pub returns-in_err-other-clause-err : goal.returns-in_err-other-clause-err
returns-in_err-other-clause-err c =
    let p = err_from_is_err_and c.from_residual-in_err-other.result c.from_residual-in_err-other.ensures.1 in
    let first = seen_source c.args.first.now in
    let second = seen_source c.args.second.now in
    let names = seen_names c.args.words.now in
    let ticks = c.args.ticks in
    let made_one = IfOk-at_ok (λ (run : PreparedRun). run_of_source first ticks.horizon ≡ Ok (seen_run run)) c.in_ok-one.ensures.ok c.prepare_run.ensures.ok in
    rw (p.1, p.2) (IsDiffRefusal-lifted (pair_of first second names ticks) (run_of_source second ticks.horizon) Second _ c.in_err-other.ensures.side
    (pair_of-bad_second first second names ticks _ (sym c.in_ok-compared.ensures.exact) _ made_one)
    (IfErr-at_err (IsRefusal (run_of_source second ticks.horizon)) c.in_err-other.ensures.err c.prepare_run-2.ensures.err))

pub diff_prepared-requires-clause-runs : goal.diff_prepared-requires-clause-runs
diff_prepared-requires-clause-runs c =
    let first = seen_source c.args.first.now in
    let second = seen_source c.args.second.now in
    let horizon = c.args.ticks.horizon in
    CanCompare-made first second horizon c.in_ok-one.one c.in_ok-other.other
    (IfOk-at_ok (λ (run : PreparedRun). run_of_source first horizon ≡ Ok (seen_run run)) c.in_ok-one.ensures.ok c.prepare_run.ensures.ok)
    (IfOk-at_ok (λ (run : PreparedRun). run_of_source second horizon ≡ Ok (seen_run run)) c.in_ok-other.ensures.ok c.prepare_run-2.ensures.ok)
    (IfOk-at_ok (λ (run : PreparedRun). All (Exists run.design.circuit) run.schedule) c.in_ok-one.ensures.ok c.prepare_run.ensures.exist)
    (IfOk-at_ok (λ (run : PreparedRun). length run.schedule ≤ most_events) c.in_ok-one.ensures.ok c.prepare_run.ensures.few)
    (IfOk-at_ok (λ (run : PreparedRun). All (Exists run.design.circuit) run.schedule) c.in_ok-other.ensures.ok c.prepare_run-2.ensures.exist)
    (IfOk-at_ok (λ (run : PreparedRun). length run.schedule ≤ most_events) c.in_ok-other.ensures.ok c.prepare_run-2.ensures.few)

pub diff_prepared-requires-clause-end : goal.diff_prepared-requires-clause-end
diff_prepared-requires-clause-end c =
    let first = seen_source c.args.first.now in
    let horizon = c.args.ticks.horizon in
    let made_one = IfOk-at_ok (λ (run : PreparedRun). run_of_source first horizon ≡ Ok (seen_run run)) c.in_ok-one.ensures.ok c.prepare_run.ensures.ok in
    c.in_ok-compared.ensures.end ∙ sym (ready_of_run first horizon (seen_run c.in_ok-one.one) made_one).horizon

pub returns-in_err-diff_prepared-clause-err : goal.returns-in_err-diff_prepared-clause-err
returns-in_err-diff_prepared-clause-err c =
    let p = err_from_is_err_and c.from_residual-in_err-diff_prepared.result c.from_residual-in_err-diff_prepared.ensures.1 in
    let first = seen_source c.args.first.now in
    let second = seen_source c.args.second.now in
    let names = seen_names c.args.words.now in
    let ticks = c.args.ticks in
    let made_one = IfOk-at_ok (λ (run : PreparedRun). run_of_source first ticks.horizon ≡ Ok (seen_run run)) c.in_ok-one.ensures.ok c.prepare_run.ensures.ok in
    let made_other = IfOk-at_ok (λ (run : PreparedRun). run_of_source second ticks.horizon ≡ Ok (seen_run run)) c.in_ok-other.ensures.ok c.prepare_run-2.ensures.ok in
    let made = pair_of-in first second names ticks _ (sym c.in_ok-compared.ensures.exact) _ made_one _ made_other in
    let fault = c.in_err-diff_prepared.field-0.0 in
    let refused = IsDiffRefusal-run (pair_in (seen_run c.in_ok-one.one) (seen_run c.in_ok-other.other) c.in_ok-compared.compared names) fault c.in_err-diff_prepared.ensures.err in
    rw (p.1, p.2) (subst (λ (pair : Result Pair DiffFault). IsDiffRefusal pair (Run fault)) (sym made) refused)

pub returns-in_err-compared-clause-memory : goal.returns-in_err-compared-clause-memory
returns-in_err-compared-clause-memory c =
    let p = err_from_is_err_and c.from_residual.result c.from_residual.ensures.1 in
    rw (p.1, p.2) (λ side wanting. absurd (c.in_err-compared.ensures.no_memory side wanting))

pub returns-in_err-one-clause-memory : goal.returns-in_err-one-clause-memory
returns-in_err-one-clause-memory c =
    let p = err_from_is_err_and c.from_residual-in_err-one.result c.from_residual-in_err-one.ensures.1 in
    rw (p.1, p.2) (λ side wanting.
    let same : c.in_err-one.field-0.0 ≡ on side Memory = cc in
    c.prepare_run.ensures.memory (c.in_err-one.ensures.err ∙ ap (λ (fault : TwinFault). Err fault.fault) same))

pub returns-in_err-other-clause-memory : goal.returns-in_err-other-clause-memory
returns-in_err-other-clause-memory c =
    let p = err_from_is_err_and c.from_residual-in_err-other.result c.from_residual-in_err-other.ensures.1 in
    let first = seen_source c.args.first.now in
    let horizon = c.args.ticks.horizon in
    let begun = IfOk-at_ok (λ (run : PreparedRun). MayWantMemory first horizon) c.in_ok-one.ensures.ok c.prepare_run.ensures.begun in
    rw p.1 (λ side wanting. begun)

pub returns-in_err-diff_prepared-clause-memory : goal.returns-in_err-diff_prepared-clause-memory
returns-in_err-diff_prepared-clause-memory c =
    let p = err_from_is_err_and c.from_residual-in_err-diff_prepared.result c.from_residual-in_err-diff_prepared.ensures.1 in
    let first = seen_source c.args.first.now in
    let horizon = c.args.ticks.horizon in
    let begun = IfOk-at_ok (λ (run : PreparedRun). MayWantMemory first horizon) c.in_ok-one.ensures.ok c.prepare_run.ensures.begun in
    rw p.1 (λ side wanting. begun)

pub returns-clause-ok : goal.returns-clause-ok
returns-clause-ok c =
    let first = seen_source c.args.first.now in
    let second = seen_source c.args.second.now in
    let names = seen_names c.args.words.now in
    let ticks = c.args.ticks in
    let made_one = IfOk-at_ok (λ (run : PreparedRun). run_of_source first ticks.horizon ≡ Ok (seen_run run)) c.in_ok-one.ensures.ok c.prepare_run.ensures.ok in
    let made_other = IfOk-at_ok (λ (run : PreparedRun). run_of_source second ticks.horizon ≡ Ok (seen_run run)) c.in_ok-other.ensures.ok c.prepare_run-2.ensures.ok in
    let one = seen_run c.in_ok-one.one in
    let other = seen_run c.in_ok-other.other in
    let answer = c.in_ok-diff_prepared.field-0 in
    rw (pair_of-in first second names ticks _ (sym c.in_ok-compared.ensures.exact) _ made_one _ made_other)
    (IsOkAnd-run (pair_in one other c.in_ok-compared.compared names) (λ pair. IsDiff pair answer.text.items answer.same) c.in_ok-diff_prepared.ensures.ok)

pub returns-clause-first_complete : goal.returns-clause-first_complete
returns-clause-first_complete c =
    let first = seen_source c.args.first.now in
    let horizon = c.args.ticks.horizon in
    let made_one = IfOk-at_ok (λ (run : PreparedRun). run_of_source first horizon ≡ Ok (seen_run run)) c.in_ok-one.ensures.ok c.prepare_run.ensures.ok in
    run_completes first horizon (seen_run c.in_ok-one.one) made_one

pub returns-clause-second_complete : goal.returns-clause-second_complete
returns-clause-second_complete c =
    let second = seen_source c.args.second.now in
    let horizon = c.args.ticks.horizon in
    let made_other = IfOk-at_ok (λ (run : PreparedRun). run_of_source second horizon ≡ Ok (seen_run run)) c.in_ok-other.ensures.ok c.prepare_run-2.ensures.ok in
    run_completes second horizon (seen_run c.in_ok-other.other) made_other
