use Rattle.std.proofs.Common.{◌∙◌, sym, ap}
use Rattle.std.proofs.lemmas.Result.{err_from_is_err_and}
use Rattle.wave_diff.specs.Compared.{compared_of}
use Rattle.prepared_runs.specs.Source.{or_fault}
use Rattle.kernel_runs.specs.declared.diff_fault.DiffFault.TheVariants.{Compared}
use Rattle.kernel_runs.proofs.Diffs.{ticks_of_diff-bad, ticks_of_diff-good}
use Rattle.kernel_runs.proofs.diff_run.compared_ticks.Goals as goal

pub returns-in_err-horizon-clause-exact : goal.returns-in_err-horizon-clause-exact
returns-in_err-horizon-clause-exact c =
    let p = err_from_is_err_and c.from_residual.result c.from_residual.ensures.1 in
    rw (p.1, p.2) (sym (ticks_of_diff-bad c.args.ticks _ (sym c.in_err-horizon.ensures)))

pub returns-in_err-new-clause-exact : goal.returns-in_err-new-clause-exact
returns-in_err-new-clause-exact c =
    let p = err_from_is_err_and c.from_residual-in_err-new.result c.from_residual-in_err-new.ensures.1 in
    let ticks = c.args.ticks in
    rw (p.1, p.2)
    (ap (or_fault Compared) c.in_err-new.ensures.exact
    ∙ ap (λ horizon. or_fault Compared (compared_of ticks.from ticks.every horizon)) c.ticks.ensures.ticks
    ∙ sym (ticks_of_diff-good ticks _ (sym c.in_ok-horizon.ensures)))

pub returns-clause-exact : goal.returns-clause-exact
returns-clause-exact c =
    let ticks = c.args.ticks in
    ap (or_fault Compared) c.in_ok-new.ensures.exact
    ∙ ap (λ horizon. or_fault Compared (compared_of ticks.from ticks.every horizon)) c.ticks.ensures.ticks
    ∙ sym (ticks_of_diff-good ticks _ (sym c.in_ok-horizon.ensures))
