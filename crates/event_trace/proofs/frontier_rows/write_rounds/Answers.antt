use Rattle.std.proofs.Common.{refl, sym, subst, ap, ◌∙◌}
use Rattle.logic3.proofs.CallerLemmas.{OnErr_always}
use Rattle.cmb_kernel.specs.State.{KernelView, most_rounds}
use Rattle.cmb_kernel.specs.Sound.{IsSound}
use Rattle.event_trace.proofs.Completing.{most_enough}
use Rattle.event_trace.proofs.TableRounds.{all_rows_left, broken_row, nearer, no_row_left, one_row_less, part_over, round_on, row_over}
use Rattle.event_trace.proofs.frontier_rows.write_rounds.Goals as goal

pub loop-kernel-init : goal.loop-kernel-init
loop-kernel-init g c =
    let kernel = c.args.kernel.now in
    let ok = c.is_failed.ensures.circuit c.requires.running in
    let sound = c.is_failed.ensures.sound c.requires.running in
    let most = most_rounds kernel.end kernel.circuit in
    record {
      running = c.requires.running;
      run = refl;
      rounds = all_rows_left kernel.circuit kernel.end c.args.nets.now most kernel.state (g.W.Write.contents c.args.out.now) c.args.text.now.items
          (c.no_deadlock.ensures.complete kernel.circuit ok kernel.end kernel.state sound most (most_enough kernel.circuit ok kernel.end));
    }

pub loop-kernel-smaller : goal.loop-kernel-smaller
loop-kernel-smaller g c =
    let start = c.args.kernel.now in
    let kernel = c.loop-kernel.kernel in
    let ok = c.is_failed.ensures.circuit c.requires.running in
    let sound = c.is_failed-in-loop-kernel.ensures.sound c.loop-kernel.invariant.running in
    let here = subst (λ (k : KernelView). IsSound k.circuit k.end kernel.state) c.loop-kernel.invariant.run sound in
    nearer start kernel c.write_round.new.kernel ok c.loop-kernel.invariant.run c.in_ok-write_round.ensures.state sound
    (sym c.is_complete.ensures.complete ∙ c.loop-kernel-test.true)
    (c.no_deadlock.ensures.round start.circuit ok start.end kernel.state here)

pub loop-kernel-preserved : goal.loop-kernel-preserved
loop-kernel-preserved g c =
    let held = g.W.Write.contents in
    let start = c.args.kernel.now in
    let kernel = c.loop-kernel.kernel in
    let goes = c.in_ok-write_round.ensures.state in
    let incomplete = sym c.is_complete.ensures.complete ∙ c.loop-kernel-test.true in
    record {
      running = ap (λ (k : KernelView). k.failed) goes ∙ c.loop-kernel.invariant.running;
      run = round_on start kernel c.write_round.new.kernel c.loop-kernel.invariant.run goes;
      rounds = one_row_less start.circuit start.end c.args.nets.now (held c.args.out.now) (held c.loop-kernel.out) _ kernel.state c.loop-kernel.text.items
          c.loop-kernel.invariant.rounds incomplete (held c.write_round.new.out) c.write_round.new.kernel.state c.write_round.new.text.items
          (ap (λ (k : KernelView). k.state) goes)
          (row_over start kernel c.args.nets.now (held c.loop-kernel.out) (held c.write_round.new.out) c.loop-kernel.text.items c.write_round.new.text.items
          c.loop-kernel.invariant.run c.in_ok-write_round.ensures.ok);
    }

pub returns-in_err-write_round-clause-err : goal.returns-in_err-write_round-clause-err
returns-in_err-write_round-clause-err g c =
    let held = g.W.Write.contents in
    let start = c.args.kernel.now in
    let kernel = c.loop-kernel.kernel in
    let incomplete = sym c.is_complete.ensures.complete ∙ c.loop-kernel-test.true in
    OnErr_always c.from_residual.result
    (broken_row start.circuit start.end c.args.nets.now (held c.args.out.now) (held c.loop-kernel.out) _ kernel.state c.loop-kernel.text.items
    c.loop-kernel.invariant.rounds incomplete (held c.write_round.new.out)
    (part_over start kernel c.args.nets.now (held c.loop-kernel.out) (held c.write_round.new.out) c.loop-kernel.text.items
    c.loop-kernel.invariant.run c.in_err-write_round.ensures.err))

pub returns-clause-ok : goal.returns-clause-ok
returns-clause-ok g c =
    let start = c.args.kernel.now in
    let complete = sym c.is_complete.ensures.complete ∙ c.loop-kernel-test.false in
    no_row_left start.circuit start.end c.args.nets.now _ _ _ c.loop-kernel.kernel.state c.loop-kernel.text.items c.loop-kernel.invariant.rounds complete
