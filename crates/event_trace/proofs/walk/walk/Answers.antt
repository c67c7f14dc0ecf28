use Rattle.std.proofs.Common.{subst, ap, arith, ◌∙◌}
use Rattle.logic3.proofs.CallerLemmas.{OnErr_always}
use Rattle.cmb_kernel.specs.State.{KernelView}
use Rattle.texts.specs.Written.{GoesOut}
use Rattle.texts.proofs.CallerLemmas.{GoesOut-then, GoesOut-stopped, GoesOut-fault}
use Rattle.event_trace.proofs.Walking.{goes_on, lines_on, undrained_on}
use Rattle.event_trace.proofs.walk.walk.Goals as goal

pub returns-in_err-push_event-clause-err : goal.returns-in_err-push_event-clause-err
returns-in_err-push_event-clause-err g c = OnErr_always c.from_residual.result (GoesOut-stopped _ _ _ _ c.loop-event.invariant.text)

pub returns-in_err-send_long-clause-err : goal.returns-in_err-send_long-clause-err
returns-in_err-send_long-clause-err g c =
    let held = g.W.Write.contents in
    let events = c.args.events.now in
    let index = c.loop-event.event-index in
    let is = lines_on c.loop-event.kernel c.push_event.new.kernel events index (omega arith) c.in_ok-push_event.ensures.ok
    c.args.shown c.args.design.now.circuit c.loop-event.text.items c.push_event.new.text.items c.in_ok-push_event.ensures.text in
    OnErr_always c.from_residual-in_err-send_long.result
    (GoesOut-fault (held c.args.out.now) (held c.loop-event.out) (held c.send_long.new.out) _ c.push_event.new.text.items _
    (subst (GoesOut _ _ _) is c.loop-event.invariant.text) c.in_err-send_long.ensures.err)

pub loop-event-preserved : goal.loop-event-preserved
loop-event-preserved g c =
    let held = g.W.Write.contents in
    let events = c.args.events.now in
    let index = c.loop-event.event-index in
    let goes = c.in_ok-push_event.ensures.ok in
    let is = lines_on c.loop-event.kernel c.push_event.new.kernel events index (omega arith) goes
    c.args.shown c.args.design.now.circuit c.loop-event.text.items c.push_event.new.text.items c.in_ok-push_event.ensures.text in
    record {
      running = ap (λ (k : KernelView). k.failed) goes ∙ c.loop-event.invariant.running;
      circuit = ap (λ (k : KernelView). k.circuit) goes ∙ c.loop-event.invariant.circuit;
      undrained = undrained_on c.loop-event.kernel c.push_event.new.kernel events index (omega arith) goes c.loop-event.invariant.undrained;
      goes = goes_on c.loop-event.kernel c.push_event.new.kernel events index (omega arith) goes ∙ c.loop-event.invariant.goes;
      text = GoesOut-then (held c.args.out.now) (held c.loop-event.out) (held c.send_long.new.out) _ c.push_event.new.text.items c.send_long.new.text.items _
          (subst (GoesOut _ _ _) is c.loop-event.invariant.text) c.in_ok-send_long.ensures.ok;
    }
