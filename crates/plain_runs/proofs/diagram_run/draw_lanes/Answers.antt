use Rattle.std.proofs.Common.{◌≡◌, ◌∙◌, ap, length, map, sym}
use Rattle.std.proofs.lemmas.Result.{err_from_is_err_and}
use Rattle.std.proofs.KnownBytes.{Keeps-refl}
use Rattle.design.proofs.CallerLemmas.{length-waves_of}
use Rattle.timing_diagram.specs.Bus.{seen_bus}
use Rattle.prepared_runs.specs.Lanes.{bus_view, seen_lanes}
use Rattle.prepared_runs.specs.Shown.{wave_at}
use Rattle.prepared_runs.proofs.CallerLemmas.{WritesPart-kept, tick_by_tick-behind}
use Rattle.plain_runs.specs.Drawn.{bus_trace}
use Rattle.plain_runs.proofs.Diagrams.{diagram_of_lanes-waves, drawn-same}
use Rattle.plain_runs.proofs.diagram_run.draw_lanes.Goals as goal

pub returns-in_err-waves-clause-err : goal.returns-in_err-waves-clause-err
returns-in_err-waves-clause-err g c =
    let p = err_from_is_err_and c.from_residual.result c.from_residual.ensures.1 in rw (p.1, p.2) (WritesPart-kept _ _ _ (Keeps-refl _))

pub bus_waves-requires : goal.bus_waves-requires
bus_waves-requires g c =
    let many : length c.as_slice.result.now ≡ length c.args.design.now.circuit =
    ap length (c.as_slice.ensures.value ∙ c.in_ok-waves.ensures.waves) ∙ length-waves_of c.args.design.now.circuit _ in
    rw (many, c.as_slice-2.ensures.value) c.requires.bits_exist

pub returns-in_err-buses-clause-err : goal.returns-in_err-buses-clause-err
returns-in_err-buses-clause-err g c =
    let p = err_from_is_err_and c.from_residual-in_err-buses.result c.from_residual-in_err-buses.ensures.1 in rw (p.1, p.2) (WritesPart-kept _ _ _ (Keeps-refl _))

pub lane_waves-requires : goal.lane_waves-requires
lane_waves-requires g c =
    let many : length c.in_ok-waves.waves.items ≡ length c.args.design.now.circuit =
    ap length c.in_ok-waves.ensures.waves ∙ length-waves_of c.args.design.now.circuit _ in
    rw (many, c.as_slice-nets.ensures.value) c.requires.nets_exist

pub returns-in_err-shown-clause-err : goal.returns-in_err-shown-clause-err
returns-in_err-shown-clause-err g c =
    let p = err_from_is_err_and c.from_residual-in_err-shown.result c.from_residual-in_err-shown.ensures.1 in rw (p.1, p.2) (WritesPart-kept _ _ _ (Keeps-refl _))

pub returns-clause-ok : goal.returns-clause-ok
returns-clause-ok g c =
    let same =
    let waves = c.in_ok-waves.waves.items in
    drawn-same c.args.form c.args.columns c.args.design.now.circuit _ _ _ _ _ _ c.as_slice-nets.ensures.value
    (c.as_slice-3.ensures.value ∙ c.in_ok-shown.ensures ∙ ap (map (wave_at waves)) c.as_slice-nets.ensures.value)
    (ap (map seen_bus) c.as_slice-4.ensures.value ∙ c.in_ok-buses.ensures
    ∙ ap (λ ws. map (bus_trace (wave_at ws)) (map bus_view c.as_slice-2.result.now)) c.as_slice.ensures.value
    ∙ ap (λ buses. map (bus_trace (wave_at waves)) (map bus_view buses)) c.as_slice-2.ensures.value)
    ∙ diagram_of_lanes-waves c.args.design.now.circuit c.args.horizon waves c.in_ok-waves.ensures.waves c.args.form c.args.columns (seen_lanes c.args.lanes.now)
    c.requires.drawable c.requires.within c.requires.nets_exist c.requires.bits_exist in
    rw (sym same) c.draw_waves.ensures.ok

pub returns-clause-err : goal.returns-clause-err
returns-clause-err g c =
    let same =
    let waves = c.in_ok-waves.waves.items in
    drawn-same c.args.form c.args.columns c.args.design.now.circuit _ _ _ _ _ _ c.as_slice-nets.ensures.value
    (c.as_slice-3.ensures.value ∙ c.in_ok-shown.ensures ∙ ap (map (wave_at waves)) c.as_slice-nets.ensures.value)
    (ap (map seen_bus) c.as_slice-4.ensures.value ∙ c.in_ok-buses.ensures
    ∙ ap (λ ws. map (bus_trace (wave_at ws)) (map bus_view c.as_slice-2.result.now)) c.as_slice.ensures.value
    ∙ ap (λ buses. map (bus_trace (wave_at waves)) (map bus_view buses)) c.as_slice-2.ensures.value)
    ∙ diagram_of_lanes-waves c.args.design.now.circuit c.args.horizon waves c.in_ok-waves.ensures.waves c.args.form c.args.columns (seen_lanes c.args.lanes.now)
    c.requires.drawable c.requires.within c.requires.nets_exist c.requires.bits_exist in
    rw (sym same) c.draw_waves.ensures.err

pub returns-in_err-waves-clause-reported : goal.returns-in_err-waves-clause-reported
returns-in_err-waves-clause-reported g c =
    let p = err_from_is_err_and c.from_residual.result c.from_residual.ensures.1 in
    rw p.1 c.in_err-waves.ensures.reported

pub returns-in_err-buses-clause-reported : goal.returns-in_err-buses-clause-reported
returns-in_err-buses-clause-reported g c =
    tick_by_tick-behind (g.P.Progress.reports c.args.horizon) c.from_residual-in_err-buses.result c.args.horizon c.args.progress.now c.all_waves.new.progress
    c.in_ok-waves.ensures.reported

pub returns-in_err-shown-clause-reported : goal.returns-in_err-shown-clause-reported
returns-in_err-shown-clause-reported g c =
    tick_by_tick-behind (g.P.Progress.reports c.args.horizon) c.from_residual-in_err-shown.result c.args.horizon c.args.progress.now c.all_waves.new.progress
    c.in_ok-waves.ensures.reported

pub returns-clause-reported : goal.returns-clause-reported
returns-clause-reported g c =
    tick_by_tick-behind (g.P.Progress.reports c.args.horizon) c.draw_waves.result c.args.horizon c.args.progress.now c.all_waves.new.progress
    c.in_ok-waves.ensures.reported
