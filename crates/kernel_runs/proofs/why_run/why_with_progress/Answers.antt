use Rattle.std.proofs.Common.{◌≡◌, Ok, sym, ap, subst, ◌∙◌}
use Rattle.std.proofs.lemmas.Result.{IfErr-weaker, IfOk-weaker, err_from_is_err_and}
use Rattle.causes.specs.Text.{why_text}
use Rattle.kernel_runs.specs.Explained.{why_of_source}
use Rattle.prepared_runs.specs.Ends.{IsRefusal}
use Rattle.prepared_runs.specs.Source.{design_of_source, seen_source}
use Rattle.prepared_runs.specs.Reported.{IsProgress, Reported}
use Rattle.prepared_runs.proofs.CallerLemmas.{IsRefusal-lifted, below_circuit, IsReady-design_of_source, progress-nothing}
use Rattle.kernel_runs.proofs.Causes.{IsRefusal-net, why_of_source-bad, why_of_source-good, why_of_source-unknown}
use Rattle.kernel_runs.proofs.why_run.why_with_progress.Goals as goal

pub returns-in_err-horizon-clause-err : goal.returns-in_err-horizon-clause-err
returns-in_err-horizon-clause-err g c =
    let p = err_from_is_err_and c.from_residual.result c.from_residual.ensures.1 in
    let source = seen_source c.args.source.now in
    rw (p.1, p.2) (IsRefusal-lifted (design_of_source source c.args.tick) (why_of_source source c.args.name.now c.args.tick) _
    (why_of_source-bad source c.args.name.now c.args.tick _) c.in_err-horizon.ensures.err)

pub returns-in_err-net-clause-err : goal.returns-in_err-net-clause-err
returns-in_err-net-clause-err g c =
    let p = err_from_is_err_and c.from_residual-in_err-net.result c.from_residual-in_err-net.ensures.1 in
    let lacks = sym c.in_err-net.ensures in
    rw (p.1, p.2) (IsRefusal-net _ _ _ lacks
    (why_of_source-unknown (seen_source c.args.source.now) c.args.name.now c.args.tick _ _ c.in_ok-horizon.ensures.ok _ lacks))

pub why_prepared-requires-clause-is_net : goal.why_prepared-requires-clause-is_net
why_prepared-requires-clause-is_net g c =
    let ready = IsReady-design_of_source (seen_source c.args.source.now) c.args.tick _ c.in_ok-horizon.ensures.ok in
    below_circuit c.in_ok-horizon.design c.args.name.now c.in_ok-net.net ready.design (sym c.in_ok-net.ensures)

pub returns-clause-ok : goal.returns-clause-ok
returns-clause-ok g c =
    let source = seen_source c.args.source.now in
    let design = c.in_ok-horizon.design in
    let net = c.in_ok-net.net in
    let ready = IsReady-design_of_source source c.args.tick _ c.in_ok-horizon.ensures.ok in
    IfOk-weaker c.why_prepared.result (λ text. text.items ≡ why_text design net c.in_ok-horizon.horizon)
    (λ text. why_of_source source c.args.name.now c.args.tick ≡ Ok text.items)
    (λ text is.
    why_of_source-good source c.args.name.now c.args.tick _ _ c.in_ok-horizon.ensures.ok _ (sym c.in_ok-net.ensures)
    ∙ ap (λ lines. Ok lines) (ap (why_text design net) (sym ready.horizon) ∙ sym is))
    c.why_prepared.ensures.ok

pub returns-clause-err : goal.returns-clause-err
returns-clause-err g c =
    IfErr-weaker c.why_prepared.result _ (IsRefusal (why_of_source (seen_source c.args.source.now) c.args.name.now c.args.tick))
    (λ fault memory. rw memory tt) c.why_prepared.ensures.err

pub returns-in_err-horizon-clause-reported : goal.returns-in_err-horizon-clause-reported
returns-in_err-horizon-clause-reported g c =
    let p = err_from_is_err_and c.from_residual.result c.from_residual.ensures.1 in
    let tick = c.args.tick in
    progress-nothing (g.P.Progress.reports tick) c.from_residual.result _ tick c.args.progress.now p.1 (g.met.P.Progress.nothing tick c.args.progress.now)

pub returns-in_err-net-clause-reported : goal.returns-in_err-net-clause-reported
returns-in_err-net-clause-reported g c =
    let p = err_from_is_err_and c.from_residual-in_err-net.result c.from_residual-in_err-net.ensures.1 in
    let tick = c.args.tick in
    progress-nothing (g.P.Progress.reports tick) c.from_residual-in_err-net.result _ tick c.args.progress.now p.1 (g.met.P.Progress.nothing tick c.args.progress.now)

pub returns-clause-reported : goal.returns-clause-reported
returns-clause-reported g c =
    let ready = IsReady-design_of_source (seen_source c.args.source.now) c.args.tick _ c.in_ok-horizon.ensures.ok in
    subst (λ horizon. Reported (g.P.Progress.reports horizon) (IsProgress c.why_prepared.result horizon) c.args.progress.now c.why_prepared.new.progress)
    ready.horizon c.why_prepared.ensures.reported
