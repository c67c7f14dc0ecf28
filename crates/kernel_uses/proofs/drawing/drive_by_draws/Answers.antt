use Rattle.std.proofs.Common.{◌≡◌, ◌+◌, ◌<◌, not, false, cond, subst, sym, ap, ◌∙◌}
use Rattle.std.specs.Option.{is_some}
use Rattle.std.proofs.lemmas.Result.{err_from_is_err_and}
use Rattle.logic3.proofs.CallerLemmas.{OnErr_always}
use Rattle.cmb_kernel.specs.declared.fault.KernelFault.TheVariants.{Memory, Failed}
use Rattle.cmb_kernel.specs.Useful.{remaining}
use Rattle.kernel_uses.proofs.Applied.{has_failed, only_memory}
use Rattle.kernel_uses.proofs.Leads.{completed, led_event, led_exists, led_nowhere, led_running, next_state, useful_event, useful_nowhere}
use Rattle.kernel_uses.proofs.Visits.{at_none, names_none}
use Rattle.kernel_uses.proofs.drawing.drive_by_draws.Goals as goal

pub loop-event-init : goal.loop-event-init
loop-event-init g c =
    let running = sym c.is_failed.ensures.failed ∙ c.if-is_failed.false in
    record {
      led = led_nowhere c.args.kernel.now (c.is_failed.ensures.sound running);
      useful = (0, useful_nowhere c.args.kernel.now.circuit c.args.kernel.now.state);
    }

pub draw-requires : goal.draw-requires
draw-requires g c = led_running c.loop-event.invariant.led (sym c.is_failed.ensures.failed ∙ c.if-is_failed.false)

pub returns-in_err-apply-clause-fault : goal.returns-in_err-apply-clause-fault
returns-in_err-apply-clause-fault g c =
    let began = sym c.is_failed.ensures.failed ∙ c.if-is_failed.false in
    let running = led_running c.loop-event.invariant.led began in
    let p = err_from_is_err_and c.from_residual.result c.from_residual.ensures.1 in
    rw (p.1, p.2)
    (only_memory c.loop-event.kernel c.apply.new.self c.in-Some.event _ _ running c.in-Some.ensures.some.0 _ c.in_err-apply.ensures.outcome
    ∙ sym (ap (λ b. cond b Failed Memory) began))

pub returns-in_err-apply-clause-failed : goal.returns-in_err-apply-clause-failed
returns-in_err-apply-clause-failed g c =
    let running = led_running c.loop-event.invariant.led (sym c.is_failed.ensures.failed ∙ c.if-is_failed.false) in
    OnErr_always c.from_residual.result
    (has_failed c.loop-event.kernel c.apply.new.self c.in-Some.event _ _ running c.in-Some.ensures.some.0 _ c.in_err-apply.ensures.outcome)

pub loop-event-smaller : goal.loop-event-smaller
loop-event-smaller g c =
    let start = c.args.kernel.now in
    let now = c.loop-event.kernel in
    let running = sym c.is_failed.ensures.failed ∙ c.if-is_failed.false in
    let led = c.loop-event.invariant.led in
    subst (λ s. remaining start.circuit start.end s < remaining start.circuit start.end now.state)
    (next_state led c.apply.new.self c.in-Some.event c.in_ok-apply.ensures.ok c.in-Some.ensures.some.0)
    (c.progress_left.ensures.useful start.circuit (c.is_failed.ensures.circuit running) start.end now.state led.sound c.in-Some.event
    (led_exists led c.in-Some.event c.in-Some.ensures.some.0) c.in-Some.ensures.some.1)

pub loop-event-preserved : goal.loop-event-preserved
loop-event-preserved g c =
    let running = sym c.is_failed.ensures.failed ∙ c.if-is_failed.false in
    let led = c.loop-event.invariant.led in
    let so_far = c.loop-event.invariant.useful in
    record {
      led = led_event led c.apply.new.self c.in-Some.event c.in_ok-apply.ensures.ok c.in-Some.ensures.some.0 running c.in_ok-apply.ensures.outcome.sound;
      useful = (
        so_far.0 + 1,
        useful_event led c.apply.new.self c.in-Some.event c.in_ok-apply.ensures.ok c.in-Some.ensures.some.0 so_far.1 c.in-Some.ensures.some.1,
      );
    }

-- an event that the kernel names is useful, so it would have been drawn
pub prove-unreachable-requires : goal.prove-unreachable-requires
prove-unreachable-requires g c =
    names_none c.useful.result _ c.useful.ensures.some
    (λ event holds. let both = sym holds.1 ∙ c.in_default.ensures.none event holds.0 in cc)
    c.if-prove.ensures

pub returns-clause-ok : goal.returns-clause-ok
returns-clause-ok g c =
    let running = sym c.is_failed.ensures.failed ∙ c.if-is_failed.false in
    let none : is_some c.useful.result ≡ false = c.is_none.ensures ∙ ap not c.if-prove.false in
    completed c.loop-event.invariant.led (c.is_failed.ensures.circuit running) (c.is_failed.ensures.sound running) (c.useful.ensures.none.0 none)
    (at_none c.useful.result none c.useful.ensures.frontiers) (at_none c.useful.result none c.useful.ensures.waves)
    (λ undrained. at_none c.useful.result none (c.useful.ensures.undrained undrained))
