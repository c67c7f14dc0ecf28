use Rattle.std.proofs.Common.{◌++◌}
use Rattle.std.proofs.lemmas.Result.{err_from_is_err_and}
use Rattle.program_io.specs.Readings.{if_named}
use Rattle.program_io.proofs.ReadingsLemmas.{ReadsAll-append, StopsBy-after, StopsBy-longer}
use Rattle.program_io.proofs.order_texts.read_files.Goals as goal

pub returns-in_err-bench-clause-err : goal.returns-in_err-bench-clause-err
returns-in_err-bench-clause-err g c =
    let p = err_from_is_err_and c.from_residual.result c.from_residual.ensures.1 in
    let files = c.args.files in
    rw (p.1, p.2) (StopsBy-longer _ (if_named files.schedule) _ _ _ (StopsBy-longer _ (if_named files.stimuli) _ _ _
    (StopsBy-longer (if_named files.bench) (if_named files.delays) _ _ _ c.in_err-bench.ensures.err)))

pub returns-in_err-delays-clause-err : goal.returns-in_err-delays-clause-err
returns-in_err-delays-clause-err g c =
    let p = err_from_is_err_and c.from_residual-in_err-delays.result c.from_residual-in_err-delays.ensures.1 in
    let files = c.args.files in
    rw (p.1, p.2) (StopsBy-longer _ (if_named files.schedule) _ _ _ (StopsBy-longer _ (if_named files.stimuli) _ _ _
    (StopsBy-after (if_named files.bench) (if_named files.delays) _ _ _ _ c.in_ok-bench.ensures.read c.in_err-delays.ensures.err)))

pub returns-in_err-stimuli-clause-err : goal.returns-in_err-stimuli-clause-err
returns-in_err-stimuli-clause-err g c =
    let p = err_from_is_err_and c.from_residual-in_err-stimuli.result c.from_residual-in_err-stimuli.ensures.1 in
    let files = c.args.files in
    let before = ReadsAll-append (if_named files.bench) (if_named files.delays) _ _ _ c.in_ok-bench.ensures.read c.in_ok-delays.ensures.read in
    let two = if_named files.bench ++ if_named files.delays in
    rw (p.1, p.2) (StopsBy-longer (two ++ if_named files.stimuli) (if_named files.schedule) _ _ _
    (StopsBy-after two (if_named files.stimuli) _ _ _ _ before c.in_err-stimuli.ensures.err))

pub returns-in_err-schedule-clause-err : goal.returns-in_err-schedule-clause-err
returns-in_err-schedule-clause-err g c =
    let p = err_from_is_err_and c.from_residual-in_err-schedule.result c.from_residual-in_err-schedule.ensures.1 in
    let files = c.args.files in
    let first = if_named files.bench in
    let three = first ++ if_named files.delays ++ if_named files.stimuli in
    let two = ReadsAll-append first (if_named files.delays) _ _ _ c.in_ok-bench.ensures.read c.in_ok-delays.ensures.read in
    let before = ReadsAll-append (first ++ if_named files.delays) (if_named files.stimuli) _ _ _ two c.in_ok-stimuli.ensures.read in
    rw (p.1, p.2) (StopsBy-after three (if_named files.schedule) _ _ _ _ before c.in_err-schedule.ensures.err)
