use Rattle.std.proofs.Common.{◌≡◌, ◌≤◌, length, All, IfOk, IfErr, IsOkAnd, Result, Ok, Err, subst}
use Rattle.std.proofs.lemmas.Result.{err_from_is_err_and, IfErr-at_err, IfOk-at_ok}
use Rattle.cmb_events.specs.Schedule.{most_events, Exists}
use Rattle.prepared_runs.specs.declared.preparation.PreparedRun.{PreparedRun}
use Rattle.wave_diff.specs.declared.comparison.Side.TheVariants.{First, Second}
use Rattle.prepared_runs.specs.Ends.{IsRefusal}
use Rattle.prepared_runs.specs.Source.{seen_source, MayWantMemory}
use Rattle.prepared_runs.specs.Prepared.{run_of_source, seen_run}
use Rattle.kernel_runs.specs.Twins.{IsComparison, twins_in, twins_of}
use Rattle.prepared_runs.proofs.CallerLemmas.{ready_of_run}
use Rattle.kernel_runs.proofs.Completed.{run_completes_on}
use Rattle.kernel_runs.proofs.Twins.{CanCompare-made, IsTwinRefusal-lifted, twins_of-bad_first, twins_of-bad_second, twins_of-in}
use Rattle.kernel_runs.proofs.twin_run.twin.Goals as goal

pub returns-in_err-one-clause-err : goal.returns-in_err-one-clause-err
returns-in_err-one-clause-err c =
    let p = err_from_is_err_and c.from_residual.result c.from_residual.ensures.1 in
    let first = seen_source c.args.first.now in
    let second = seen_source c.args.second.now in
    let name = c.args.name.now in
    let horizon = c.args.horizon in
    rw (p.1, p.2) (IsTwinRefusal-lifted (twins_of first second name horizon) (run_of_source first horizon) First _ c.in_err-one.ensures.side
    (twins_of-bad_first first second name horizon)
    (IfErr-at_err (IsRefusal (run_of_source first horizon)) c.in_err-one.ensures.err c.prepare_run.ensures.err))

pub returns-in_err-other-clause-err : goal.returns-in_err-other-clause-err
returns-in_err-other-clause-err c =
    let p = err_from_is_err_and c.from_residual-in_err-other.result c.from_residual-in_err-other.ensures.1 in
    let first = seen_source c.args.first.now in
    let second = seen_source c.args.second.now in
    let name = c.args.name.now in
    let horizon = c.args.horizon in
    let made_one = IfOk-at_ok (λ (run : PreparedRun). run_of_source first horizon ≡ Ok (seen_run run)) c.in_ok-one.ensures.ok c.prepare_run.ensures.ok in
    rw (p.1, p.2) (IsTwinRefusal-lifted (twins_of first second name horizon) (run_of_source second horizon) Second _ c.in_err-other.ensures.side
    (twins_of-bad_second first second name horizon _ made_one)
    (IfErr-at_err (IsRefusal (run_of_source second horizon)) c.in_err-other.ensures.err c.prepare_run-2.ensures.err))

pub compare-requires : goal.compare-requires
compare-requires c =
    let first = seen_source c.args.first.now in
    let second = seen_source c.args.second.now in
    let horizon = c.args.horizon in
    CanCompare-made first second horizon c.in_ok-one.one c.in_ok-other.other
    (IfOk-at_ok (λ (run : PreparedRun). run_of_source first horizon ≡ Ok (seen_run run)) c.in_ok-one.ensures.ok c.prepare_run.ensures.ok)
    (IfOk-at_ok (λ (run : PreparedRun). run_of_source second horizon ≡ Ok (seen_run run)) c.in_ok-other.ensures.ok c.prepare_run-2.ensures.ok)
    (IfOk-at_ok (λ (run : PreparedRun). All (Exists run.design.circuit) run.schedule) c.in_ok-one.ensures.ok c.prepare_run.ensures.exist)
    (IfOk-at_ok (λ (run : PreparedRun). length run.schedule ≤ most_events) c.in_ok-one.ensures.ok c.prepare_run.ensures.few)
    (IfOk-at_ok (λ (run : PreparedRun). All (Exists run.design.circuit) run.schedule) c.in_ok-other.ensures.ok c.prepare_run-2.ensures.exist)
    (IfOk-at_ok (λ (run : PreparedRun). length run.schedule ≤ most_events) c.in_ok-other.ensures.ok c.prepare_run-2.ensures.few)

pub returns-clause-ok : goal.returns-clause-ok
returns-clause-ok c =
    let first = seen_source c.args.first.now in
    let second = seen_source c.args.second.now in
    let name = c.args.name.now in
    let horizon = c.args.horizon in
    let made_one = IfOk-at_ok (λ (run : PreparedRun). run_of_source first horizon ≡ Ok (seen_run run)) c.in_ok-one.ensures.ok c.prepare_run.ensures.ok in
    let made_other = IfOk-at_ok (λ (run : PreparedRun). run_of_source second horizon ≡ Ok (seen_run run)) c.in_ok-other.ensures.ok c.prepare_run-2.ensures.ok in
    let one = seen_run c.in_ok-one.one in
    let other = seen_run c.in_ok-other.other in
    rw (twins_of-in first second name horizon one made_one other made_other)
    (subst (λ ticks. IfOk c.compare.result (λ answer. IsOkAnd (twins_in one other name) (λ twins. IsComparison twins name ticks answer)))
    (ready_of_run first horizon one made_one).horizon c.compare.ensures.ok)

pub returns-clause-first_complete : goal.returns-clause-first_complete
returns-clause-first_complete c =
    let first = seen_source c.args.first.now in
    let horizon = c.args.horizon in
    let made_one = IfOk-at_ok (λ (run : PreparedRun). run_of_source first horizon ≡ Ok (seen_run run)) c.in_ok-one.ensures.ok c.prepare_run.ensures.ok in
    run_completes_on first horizon (seen_run c.in_ok-one.one) c.compare.result made_one

pub returns-clause-second_complete : goal.returns-clause-second_complete
returns-clause-second_complete c =
    let second = seen_source c.args.second.now in
    let horizon = c.args.horizon in
    let made_other = IfOk-at_ok (λ (run : PreparedRun). run_of_source second horizon ≡ Ok (seen_run run)) c.in_ok-other.ensures.ok c.prepare_run-2.ensures.ok in
    run_completes_on second horizon (seen_run c.in_ok-other.other) c.compare.result made_other

pub returns-clause-err : goal.returns-clause-err
returns-clause-err c =
    let first = seen_source c.args.first.now in
    let second = seen_source c.args.second.now in
    let name = c.args.name.now in
    let horizon = c.args.horizon in
    let made_one = IfOk-at_ok (λ (run : PreparedRun). run_of_source first horizon ≡ Ok (seen_run run)) c.in_ok-one.ensures.ok c.prepare_run.ensures.ok in
    let made_other = IfOk-at_ok (λ (run : PreparedRun). run_of_source second horizon ≡ Ok (seen_run run)) c.in_ok-other.ensures.ok c.prepare_run-2.ensures.ok in
    rw (twins_of-in first second name horizon _ made_one _ made_other) c.compare.ensures.err

-- whatever a refusal is
if_refused : {A F : Type 0} (P : F → Type 0) (result : Result A F) → ((fault : F) → P fault) → IfErr result P
if_refused P (Ok value) holds = tt
if_refused P (Err fault) holds = holds fault

pub returns-clause-memory : goal.returns-clause-memory
returns-clause-memory c =
    let first = seen_source c.args.first.now in
    let may = IfOk-at_ok (λ (run : PreparedRun). MayWantMemory first c.args.horizon) c.in_ok-one.ensures.ok c.prepare_run.ensures.begun in
    if_refused _ c.compare.result (λ fault wanted. may)
