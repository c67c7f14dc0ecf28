use Rattle.std.proofs.Common.{◌∙◌, sym, ap}
use Rattle.std.proofs.lemmas.Result.{err_from_is_err_and}
use Rattle.prepared_runs.specs.Source.{or_fault}
use Rattle.plain_runs.specs.declared.diagram_fault.DiagramFault.TheVariants.{Columns}
use Rattle.plain_runs.proofs.Diagrams.{ticks_of_view-bad, ticks_of_view-good}
use Rattle.plain_runs.proofs.diagram_run.columns_of.Goals as goal

pub returns-in_err-horizon-clause-exact : goal.returns-in_err-horizon-clause-exact
returns-in_err-horizon-clause-exact c =
    let p = err_from_is_err_and c.from_residual.result c.from_residual.ensures.1 in
    rw (p.1, p.2) (sym (ticks_of_view-bad c.args.view.now _ (sym c.in_err-horizon.ensures)))

pub returns-in_err-new-clause-exact : goal.returns-in_err-new-clause-exact
returns-in_err-new-clause-exact c =
    let p = err_from_is_err_and c.from_residual-in_err-new.result c.from_residual-in_err-new.ensures.1 in
    rw (p.1, p.2) (ap (or_fault Columns) c.in_err-new.ensures.exact ∙ sym (ticks_of_view-good c.args.view.now _ (sym c.in_ok-horizon.ensures)))

pub returns-clause-exact : goal.returns-clause-exact
returns-clause-exact c =
    ap (or_fault Columns) c.in_ok-new.ensures.exact ∙ sym (ticks_of_view-good c.args.view.now _ (sym c.in_ok-horizon.ensures))
