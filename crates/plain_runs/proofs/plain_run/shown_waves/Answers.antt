use Rattle.std.proofs.Common.{◌≡◌, ◌<◌, length, All, ap, ◌∙◌}
use Rattle.std.proofs.lemmas.Result.{IfOk-weaker}
use Rattle.design.proofs.CallerLemmas.{length-waves_of}
use Rattle.prepared_runs.proofs.CallerLemmas.{All-shown_nets, waves_of-all, map-wave_at}
use Rattle.prepared_runs.proofs.CallerLemmas.{tick_by_tick-behind}
use Rattle.plain_runs.proofs.plain_run.shown_waves.Goals as goal

pub copies-requires : goal.copies-requires
copies-requires g c =
    let design = c.args.design.now in
    let waves : length c.as_slice.result.now ≡ length design.circuit =
    ap length (c.as_slice.ensures.value ∙ c.in_ok-waves.ensures.waves) ∙ length-waves_of design.circuit _ in
    rw (waves, c.requires.nets) (All-shown_nets c.args.show.now design c.requires.well_formed)

pub returns-in-All-clause-waves : goal.returns-in-All-clause-waves
returns-in-All-clause-waves g c =
    c.in_ok-waves.ensures.waves ∙ waves_of-all c.args.show.now c.args.design.now c.args.horizon c.args.nets.now c.requires.well_formed c.in-All.is c.requires.nets

pub returns-in-Outputs-clause-waves : goal.returns-in-Outputs-clause-waves
returns-in-Outputs-clause-waves g c =
    let design = c.args.design.now in
    let below : All (λ net. net < length design.circuit) c.args.nets.now =
    rw c.requires.nets (All-shown_nets c.args.show.now design c.requires.well_formed) in
    IfOk-weaker c.copies.result _ _
    (λ copies are. are ∙ map-wave_at design.circuit c.args.horizon c.as_slice.result.now c.args.nets.now (c.as_slice.ensures.value ∙ c.in_ok-waves.ensures.waves) below)
    c.copies.ensures

pub returns-in-Outputs-clause-reported : goal.returns-in-Outputs-clause-reported
returns-in-Outputs-clause-reported g c =
    tick_by_tick-behind (g.P.Progress.reports c.args.horizon) c.copies.result c.args.horizon c.args.progress.now c.all_waves.new.progress c.in_ok-waves.ensures.reported
