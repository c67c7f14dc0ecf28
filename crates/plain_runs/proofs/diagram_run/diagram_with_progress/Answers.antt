use Rattle.std.proofs.Common.{◌+◌, sym, subst, arith}
use Rattle.std.proofs.lemmas.Result.{err_from_is_err_and}
use Rattle.prepared_runs.specs.Source.{design_of_source, seen_source}
use Rattle.plain_runs.proofs.Diagrams.{DiagramEndsBy-IsRefusal, DiagramEndsBy-ticks, diagram_of_source-bad_ticks, diagram_of_source-bad, diagram_of_source-good, diagram_of_source-no_lanes}
use Rattle.prepared_runs.specs.Reported.{CountsBelow, CountsTo, Reported}
use Rattle.prepared_runs.proofs.CallerLemmas.{AreLanes-lanes_of, IsReady-design_of_source, tick_by_tick-nothing}
use Rattle.plain_runs.proofs.diagram_run.diagram_with_progress.Goals as goal

pub returns-in_err-columns-clause-err : goal.returns-in_err-columns-clause-err
returns-in_err-columns-clause-err g c =
    let p = err_from_is_err_and c.from_residual.result c.from_residual.ensures.1 in
    let view = c.args.view.now in
    let bad = sym c.in_err-columns.ensures.exact in
    rw (p.1, p.2) (DiagramEndsBy-ticks view _ _ _ bad (diagram_of_source-bad_ticks (seen_source c.args.source.now) view c.args.form _ bad))

pub returns-in_err-horizon-clause-err : goal.returns-in_err-horizon-clause-err
returns-in_err-horizon-clause-err g c =
    let p = err_from_is_err_and c.from_residual-in_err-horizon.result c.from_residual-in_err-horizon.ensures.1 in
    let source = seen_source c.args.source.now in
    let view = c.args.view.now in
    rw (p.1, p.2) (DiagramEndsBy-IsRefusal (design_of_source source view.horizon) _ _ _
    (diagram_of_source-bad source view c.args.form _ (sym c.in_ok-columns.ensures.exact) _) c.in_err-horizon.ensures.err)

pub returns-in_err-lanes-clause-err : goal.returns-in_err-lanes-clause-err
returns-in_err-lanes-clause-err g c =
    let p = err_from_is_err_and c.from_residual-in_err-lanes.result c.from_residual-in_err-lanes.ensures.1 in
    rw (p.1, p.2) (DiagramEndsBy-IsRefusal _ _ _ _
    (diagram_of_source-no_lanes (seen_source c.args.source.now) c.args.view.now c.args.form _ (sym c.in_ok-columns.ensures.exact) _ _ c.in_ok-horizon.ensures.ok _) c.in_err-lanes.ensures.err)

pub draw_lanes-requires-clause-nets_exist : goal.draw_lanes-requires-clause-nets_exist
draw_lanes-requires-clause-nets_exist g c =
    (AreLanes-lanes_of c.args.view.now c.in_ok-horizon.design c.in_ok-lanes.ensures.well_formed _ c.in_ok-lanes.ensures.ok).nets

pub draw_lanes-requires-clause-bits_exist : goal.draw_lanes-requires-clause-bits_exist
draw_lanes-requires-clause-bits_exist g c =
    (AreLanes-lanes_of c.args.view.now c.in_ok-horizon.design c.in_ok-lanes.ensures.well_formed _ c.in_ok-lanes.ensures.ok).bits

pub draw_lanes-requires-clause-few : goal.draw_lanes-requires-clause-few
draw_lanes-requires-clause-few g c =
    (AreLanes-lanes_of c.args.view.now c.in_ok-horizon.design c.in_ok-lanes.ensures.well_formed _ c.in_ok-lanes.ensures.ok).few

pub draw_lanes-requires-clause-within : goal.draw_lanes-requires-clause-within
draw_lanes-requires-clause-within g c =
    let ready = IsReady-design_of_source (seen_source c.args.source.now) c.args.view.now.horizon _ c.in_ok-horizon.ensures.ok in
    let end = ready.horizon in
    let within = c.in_ok-columns.ensures.within in omega (arith, end, within)

pub returns-in_err-draw_lanes-clause-err : goal.returns-in_err-draw_lanes-clause-err
returns-in_err-draw_lanes-clause-err g c =
    let p = err_from_is_err_and c.from_residual-in_err-draw_lanes.result c.from_residual-in_err-draw_lanes.ensures.1 in
    let good = diagram_of_source-good (seen_source c.args.source.now) c.args.view.now c.args.form _ (sym c.in_ok-columns.ensures.exact) _ _ c.in_ok-horizon.ensures.ok _ c.in_ok-lanes.ensures.ok in
    rw (p.1, p.2) (rw good c.in_err-draw_lanes.ensures.err)

pub returns-clause-ok : goal.returns-clause-ok
returns-clause-ok g c =
    rw (diagram_of_source-good (seen_source c.args.source.now) c.args.view.now c.args.form _ (sym c.in_ok-columns.ensures.exact) _ _ c.in_ok-horizon.ensures.ok _ c.in_ok-lanes.ensures.ok) c.in_ok-draw_lanes.ensures.ok

pub returns-in_err-columns-clause-reported : goal.returns-in_err-columns-clause-reported
returns-in_err-columns-clause-reported g c =
    let p = err_from_is_err_and c.from_residual.result c.from_residual.ensures.1 in
    let horizon = c.args.view.now.horizon in
    tick_by_tick-nothing (g.P.Progress.reports horizon) c.from_residual.result _ horizon c.args.progress.now p.1 (g.met.P.Progress.nothing horizon c.args.progress.now)

pub returns-in_err-horizon-clause-reported : goal.returns-in_err-horizon-clause-reported
returns-in_err-horizon-clause-reported g c =
    let p = err_from_is_err_and c.from_residual-in_err-horizon.result c.from_residual-in_err-horizon.ensures.1 in
    let horizon = c.args.view.now.horizon in
    tick_by_tick-nothing (g.P.Progress.reports horizon) c.from_residual-in_err-horizon.result _ horizon c.args.progress.now p.1 (g.met.P.Progress.nothing horizon c.args.progress.now)

pub returns-in_err-lanes-clause-reported : goal.returns-in_err-lanes-clause-reported
returns-in_err-lanes-clause-reported g c =
    let p = err_from_is_err_and c.from_residual-in_err-lanes.result c.from_residual-in_err-lanes.ensures.1 in
    let horizon = c.args.view.now.horizon in
    tick_by_tick-nothing (g.P.Progress.reports horizon) c.from_residual-in_err-lanes.result _ horizon c.args.progress.now p.1
    (g.met.P.Progress.nothing horizon c.args.progress.now)

pub returns-in_err-draw_lanes-clause-reported : goal.returns-in_err-draw_lanes-clause-reported
returns-in_err-draw_lanes-clause-reported g c =
    let p = err_from_is_err_and c.from_residual-in_err-draw_lanes.result c.from_residual-in_err-draw_lanes.ensures.1 in
    let ready = IsReady-design_of_source (seen_source c.args.source.now) c.args.view.now.horizon _ c.in_ok-horizon.ensures.ok in
    rw p.1
    (subst (λ horizon. Reported (g.P.Progress.reports horizon) (CountsBelow (horizon + 2)) c.args.progress.now c.draw_lanes.new.progress)
    ready.horizon c.in_err-draw_lanes.ensures.reported)

pub returns-clause-reported : goal.returns-clause-reported
returns-clause-reported g c =
    let ready = IsReady-design_of_source (seen_source c.args.source.now) c.args.view.now.horizon _ c.in_ok-horizon.ensures.ok in
    subst (λ horizon. Reported (g.P.Progress.reports horizon) (CountsTo (horizon + 1)) c.args.progress.now c.draw_lanes.new.progress)
    ready.horizon c.in_ok-draw_lanes.ensures.reported
