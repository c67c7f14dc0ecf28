use Rattle.std.proofs.Common.{◌≡◌, ◌+◌, ◌<◌, ◌≤◌, [], ◌∷◌, ◌++◌, ap, sym, subst, ◌∙◌, arith}
use Rattle.std.proofs.lemmas.Bool.{eqb-false, eqb-true}
use Rattle.std.proofs.lemmas.Result.{err_from_is_err_and}
use Rattle.cmb_kernel.specs.State.{KernelView, least_frontier}
use Rattle.cmb_kernel.proofs.CallerLemmas.{least_tells}
use Rattle.prepared_runs.specs.Reported.{RisesBelow, RisesTo}
use Rattle.prepared_runs.proofs.CallerLemmas.{Reported-more, RisesFrom, rises_last, rises_next, rises_nothing, rises_stopped}
use Rattle.kernel_runs.proofs.Passes.{GoesOn-none, GoesOn-trans, still_covers}
use Rattle.kernel_runs.proofs.Streamed.{least_within}
use Rattle.kernel_runs.proofs.sweep_run.run_to_end.Goals as goal

pub loop-horizon-init : goal.loop-horizon-init
loop-horizon-init g c =
    let kernel = c.args.kernel.now in
    record {
      goes = GoesOn-none kernel c.requires.sound;
      undrained = c.requires.undrained;
      covers = c.requires.covers;
      reported = ([], g.met.P.Progress.nothing c.args.horizon c.args.progress.now, rises_nothing (least_frontier kernel.end kernel.state));
    }

pub report-requires : goal.report-requires
report-requires g c =
    let kernel = c.loop-horizon.kernel in
    let end = ap (λ (k : KernelView). k.end) c.loop-horizon.invariant.goes.run ∙ c.requires.end in
    omega (arith, end, least_within kernel, c.least_frontier-known.ensures)

pub loop-horizon-preserved : goal.loop-horizon-preserved
loop-horizon-preserved g c =
    let kernel = c.loop-horizon.kernel in
    let goes = c.in_ok-sweep.ensures.goes in
    let horizon = c.args.horizon in
    let start = c.args.kernel.now in
    let first = least_frontier start.end start.state in
    let known = c.least_frontier-known.result in
    let incomplete = sym c.is_complete.ensures.complete ∙ c.if-is_complete.false in
    let apart = eqb-false _ _ (least_tells kernel.circuit kernel.end kernel.state c.loop-horizon.invariant.goes.sound ∙ incomplete) in
    let next = least_frontier c.sweep.new.kernel.end c.sweep.new.kernel.state in
    let is_least = c.least_frontier-known.ensures in
    let risen : known < next =
    let rises = c.in_ok-sweep.ensures.rises (omega (arith, apart, least_within kernel)) in omega (arith, rises, is_least) in
    record {
      goes = GoesOn-trans c.loop-horizon.invariant.goes goes;
      undrained = λ net. goes.floors net ∙ c.loop-horizon.invariant.undrained net;
      covers = still_covers c.loop-horizon.sweeps c.sweep.new.self c.in_ok-sweep.ensures.width goes c.loop-horizon.invariant.covers;
      reported = Reported-more (g.P.Progress.reports horizon) (g.met.P.Progress.joined horizon)
          (RisesFrom first (least_frontier kernel.end kernel.state)) (RisesFrom first next) known
          c.args.progress.now c.loop-horizon.progress c.report.new.self
          (λ ticks so_far. rises_next first known next ticks risen (subst (λ number. RisesFrom first number ticks) (sym is_least) so_far))
          c.loop-horizon.invariant.reported c.report.ensures;
    }

pub loop-horizon-smaller : goal.loop-horizon-smaller
loop-horizon-smaller g c =
    let kernel = c.loop-horizon.kernel in
    let incomplete = sym c.is_complete.ensures.complete ∙ c.if-is_complete.false in
    let apart = eqb-false _ _ (least_tells kernel.circuit kernel.end kernel.state c.loop-horizon.invariant.goes.sound ∙ incomplete) in
    let end = ap (λ (k : KernelView). k.end) c.in_ok-sweep.ensures.goes.run in
    let risen = c.in_ok-sweep.ensures.rises (omega (arith, apart, least_within kernel)) in
    omega (arith, risen, end, least_within kernel, least_within c.sweep.new.kernel)

pub returns-then-is_complete-clause-reported : goal.returns-then-is_complete-clause-reported
returns-then-is_complete-clause-reported g c =
    let kernel = c.loop-horizon.kernel in
    let horizon = c.args.horizon in
    let start = c.args.kernel.now in
    let first = least_frontier start.end start.state in
    let known = c.least_frontier-known.result in
    let is_least = c.least_frontier-known.ensures in
    let complete = sym c.is_complete.ensures.complete ∙ c.if-is_complete.true in
    let all = eqb-true _ _ (least_tells kernel.circuit kernel.end kernel.state c.loop-horizon.invariant.goes.sound ∙ complete) in
    let end = ap (λ (k : KernelView). k.end) c.loop-horizon.invariant.goes.run ∙ c.requires.end in
    let last : known ≡ horizon + 1 = is_least ∙ all ∙ end in
    Reported-more (g.P.Progress.reports horizon) (g.met.P.Progress.joined horizon)
    (RisesFrom first (least_frontier kernel.end kernel.state)) (RisesTo (horizon + 1)) known
    c.args.progress.now c.loop-horizon.progress c.report.new.self
    (λ ticks so_far. (rises_last first (horizon + 1) known ticks last (subst (λ number. RisesFrom first number ticks) (sym is_least) so_far)).0)
    c.loop-horizon.invariant.reported c.report.ensures

pub returns-in_err-sweep-clause-reported : goal.returns-in_err-sweep-clause-reported
returns-in_err-sweep-clause-reported g c =
    let p = err_from_is_err_and c.from_residual.result c.from_residual.ensures.1 in
    let kernel = c.loop-horizon.kernel in
    let horizon = c.args.horizon in
    let start = c.args.kernel.now in
    let first = least_frontier start.end start.state in
    let known = c.least_frontier-known.result in
    let is_least = c.least_frontier-known.ensures in
    let end = ap (λ (k : KernelView). k.end) c.loop-horizon.invariant.goes.run ∙ c.requires.end in
    let within : known + 1 ≤ horizon + 2 = omega (arith, end, least_within kernel, is_least) in
    rw p.1
    (Reported-more (g.P.Progress.reports horizon) (g.met.P.Progress.joined horizon)
    (RisesFrom first (least_frontier kernel.end kernel.state)) (RisesBelow (horizon + 2)) known
    c.args.progress.now c.loop-horizon.progress c.report.new.self
    (λ ticks so_far. (rises_stopped first (known + 1) (horizon + 2) (ticks ++ known ∷ []) within
    (rises_next first known (known + 1) ticks (omega arith) (subst (λ number. RisesFrom first number ticks) (sym is_least) so_far))).0)
    c.loop-horizon.invariant.reported c.report.ensures)
