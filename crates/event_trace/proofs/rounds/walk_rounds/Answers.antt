use Rattle.std.proofs.Common.{refl, sym, subst, ap, ◌∙◌}
use Rattle.logic3.proofs.CallerLemmas.{OnErr_always}
use Rattle.cmb_kernel.specs.declared.counts.Counts.{Counts}
use Rattle.cmb_kernel.specs.State.{State, KernelView, floor_at, most_rounds}
use Rattle.cmb_kernel.specs.Step.{round_events}
use Rattle.cmb_kernel.proofs.CallerLemmas.{steps_floor}
use Rattle.cmb_kernel.specs.Sound.{IsSound}
use Rattle.event_trace.proofs.Completing.{all_left, broken_round, less_left, most_enough, none_left, one_more_round, run_on}
use Rattle.event_trace.proofs.rounds.walk_rounds.Goals as goal

pub loop-alloc-init : goal.loop-alloc-init
loop-alloc-init g c =
    let kernel = c.args.kernel.now in
    let ok = c.is_failed.ensures.circuit c.requires.running in
    let sound = c.is_failed.ensures.sound c.requires.running in
    let most = most_rounds kernel.end kernel.circuit in
    record {
      running = c.requires.running;
      run = refl;
      undrained = c.requires.undrained;
      rounds = all_left c.args.shown c.args.design.now.circuit most c.counts-rounds.result.rounds kernel.state (g.W.Write.contents c.args.out.now) c.args.text.now.items
          (ap (λ (counts : Counts). counts.rounds) c.counts-rounds.ensures)
          (c.no_deadlock.ensures.complete kernel.circuit ok kernel.end kernel.state sound most (most_enough kernel.circuit ok kernel.end));
    }

pub loop-alloc-smaller : goal.loop-alloc-smaller
loop-alloc-smaller g c =
    let start = c.args.kernel.now in
    let kernel = c.loop-alloc.kernel in
    let ok = c.is_failed.ensures.circuit c.requires.running in
    let sound = c.is_failed-in-loop-alloc.ensures.sound c.loop-alloc.invariant.running in
    let here = subst (λ (k : KernelView). IsSound k.circuit k.end kernel.state) c.loop-alloc.invariant.run sound in
    less_left start kernel c.walk_round.new.kernel ok c.loop-alloc.invariant.run c.in_ok-walk_round.ensures.state sound
    (sym c.is_complete.ensures.complete ∙ c.loop-alloc-test.true)
    (c.no_deadlock.ensures.round start.circuit ok start.end kernel.state here)

pub loop-alloc-preserved : goal.loop-alloc-preserved
loop-alloc-preserved g c =
    let held = g.W.Write.contents in
    let kernel = c.loop-alloc.kernel in
    let goes = c.in_ok-walk_round.ensures.state in
    let so_far = c.loop-alloc.invariant.rounds in
    let incomplete = sym c.is_complete.ensures.complete ∙ c.loop-alloc-test.true in
    record {
      running = ap (λ (k : KernelView). k.failed) goes ∙ c.loop-alloc.invariant.running;
      run = run_on c.args.kernel.now kernel c.walk_round.new.kernel c.loop-alloc.invariant.run goes;
      undrained = λ net. ap (λ (k : KernelView). floor_at k.state net) goes ∙ steps_floor kernel.state (round_events kernel.state) net
          ∙ c.loop-alloc.invariant.undrained net;
      rounds = one_more_round _ _ _ (held c.args.out.now) (held c.loop-alloc.out) _ c.loop-alloc.rounds kernel.state c.loop-alloc.text.items so_far incomplete
          c.saturating_add-rounds.result c.saturating_add-rounds.ensures (held c.walk_round.new.out) c.walk_round.new.kernel.state c.walk_round.new.text.items
          (ap (λ (k : KernelView). k.state) goes) c.in_ok-walk_round.ensures.ok;
    }

pub returns-in_err-walk_round-clause-err : goal.returns-in_err-walk_round-clause-err
returns-in_err-walk_round-clause-err g c =
    let held = g.W.Write.contents in
    let kernel = c.loop-alloc.kernel in
    let incomplete = sym c.is_complete.ensures.complete ∙ c.loop-alloc-test.true in
    OnErr_always c.from_residual.result
    (broken_round _ _ _ (held c.args.out.now) (held c.loop-alloc.out) _ c.loop-alloc.rounds kernel.state c.loop-alloc.text.items c.loop-alloc.invariant.rounds incomplete
    c.saturating_add-rounds.result c.saturating_add-rounds.ensures (held c.walk_round.new.out) c.in_err-walk_round.ensures.err)

pub returns-clause-counts : goal.returns-clause-counts
returns-clause-counts g c =
    let complete = sym c.is_complete.ensures.complete ∙ c.loop-alloc-test.false in
    let done = none_left _ _ _ _ _ _ c.loop-alloc.rounds c.loop-alloc.kernel.state c.loop-alloc.text.items c.loop-alloc.invariant.rounds complete in
    ap (λ (counts : Counts). record counts { rounds = c.loop-alloc.rounds }) c.counts-counts.ensures ∙ ap (λ (s : State). s.counts) done.0

pub returns-clause-ok : goal.returns-clause-ok
returns-clause-ok g c =
    let complete = sym c.is_complete.ensures.complete ∙ c.loop-alloc-test.false in
    (none_left _ _ _ _ _ _ c.loop-alloc.rounds c.loop-alloc.kernel.state c.loop-alloc.text.items c.loop-alloc.invariant.rounds complete).1
