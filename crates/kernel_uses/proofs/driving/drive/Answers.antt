use Rattle.std.proofs.Common.{◌≡◌, ◌+◌, ◌*◌, ◌<◌, ◌≤◌, cond, length, refl, subst, sym, ap, ◌∙◌, arith}
use Rattle.std.proofs.lemmas.Result.{err_from_is_err_and}
use Rattle.logic3.proofs.CallerLemmas.{OnErr_always}
use Rattle.cmb_kernel.specs.declared.fault.KernelFault.TheVariants.{Memory, Failed}
use Rattle.kernel_uses.proofs.Applied.{has_failed, only_memory}
use Rattle.design.specs.Circuit.{pin_count}
use Rattle.cmb_kernel.specs.Useful.{remaining}
use Rattle.kernel_uses.proofs.Leads.{completed, count_within, led_event, led_exists, led_nowhere, led_running, most_fits, next_state, useful_event, useful_nowhere}
use Rattle.kernel_uses.proofs.driving.drive.Goals as goal
use Rattle.kernel_uses.proofs.driving.drive.Goals.{In_ok-apply}

pub loop-event-init : goal.loop-event-init
loop-event-init g c =
    let running = sym c.is_failed.ensures.failed ∙ c.if-is_failed.false in
    record {
      led = led_nowhere c.args.kernel.now (c.is_failed.ensures.sound running);
      useful = useful_nowhere c.args.kernel.now.circuit c.args.kernel.now.state;
    }

pub useful-requires : goal.useful-requires
useful-requires g c = led_running c.loop-event.invariant.led (sym c.is_failed.ensures.failed ∙ c.if-is_failed.false)

pub returns-in_err-apply-clause-fault : goal.returns-in_err-apply-clause-fault
returns-in_err-apply-clause-fault g c =
    let began = sym c.is_failed.ensures.failed ∙ c.if-is_failed.false in
    let running = led_running c.loop-event.invariant.led began in
    let p = err_from_is_err_and c.from_residual.result c.from_residual.ensures.1 in
    rw (p.1, p.2)
    (only_memory c.loop-event.kernel c.apply.new.self c.in-Some.event _ _ running c.in-Some.ensures.some.0 _ c.in_err-apply.ensures.outcome
    ∙ sym (ap (λ b. cond b Failed Memory) began))

pub returns-in_err-apply-clause-failed : goal.returns-in_err-apply-clause-failed
returns-in_err-apply-clause-failed g c =
    let running = led_running c.loop-event.invariant.led (sym c.is_failed.ensures.failed ∙ c.if-is_failed.false) in
    OnErr_always c.from_residual.result
    (has_failed c.loop-event.kernel c.apply.new.self c.in-Some.event _ _ running c.in-Some.ensures.some.0 _ c.in_err-apply.ensures.outcome)

-- the count with the event that comes is in its bound
counts_more : (g : _) (c : In_ok-apply g) → c.loop-event.count + 1 ≤ c.args.kernel.now.end * (length c.args.kernel.now.circuit + pin_count c.args.kernel.now.circuit)
counts_more g c =
    let start = c.args.kernel.now in
    let running = sym c.is_failed.ensures.failed ∙ c.if-is_failed.false in
    let led = c.loop-event.invariant.led in
    count_within start.circuit start.end start.state c.apply.new.self.state (c.loop-event.count + 1)
    (c.no_deadlock.ensures.bound start.circuit (c.is_failed.ensures.circuit running) start.end start.state (c.is_failed.ensures.sound running))
    (useful_event led c.apply.new.self c.in-Some.event c.in_ok-apply.ensures.ok c.in-Some.ensures.some.0 c.loop-event.invariant.useful
    c.in-Some.ensures.some.1)

pub overflow_add-count : goal.overflow_add-count
overflow_add-count g c =
    let more = counts_more g c in
    let running = sym c.is_failed.ensures.failed ∙ c.if-is_failed.false in
    let fits = most_fits c.args.kernel.now.end (length c.args.kernel.now.circuit) (pin_count c.args.kernel.now.circuit) (c.loop-event.count + 1)
    (let is = c.end.ensures.end in let most = c.end.ensures.most running in omega (arith, is, most))
    (let is = c.nets.ensures.count in let most = c.nets.ensures.most in omega (arith, is, most))
    (let is = c.pins.ensures.count in let most = c.pins.ensures.most in omega (arith, is, most)) more in
    omega (arith, fits)

pub prove-unreachable-requires : goal.prove-unreachable-requires
prove-unreachable-requires g c =
    let more = counts_more g (goal.at.prove-unreachable-requires g c).In_ok-apply in
    let end = c.end.ensures.end in
    let nets = c.from.ensures ∙ c.nets.ensures.count in
    let pins = c.from-2.ensures ∙ c.pins.ensures.count in
    let is : c.end.result * (c.from.result + c.from-2.result)
    ≡ c.args.kernel.now.end * (length c.args.kernel.now.circuit + pin_count c.args.kernel.now.circuit) = cc in
    let over = c.if-prove.true in
    omega (arith, more, is, over)

pub loop-event-smaller : goal.loop-event-smaller
loop-event-smaller g c =
    let start = c.args.kernel.now in
    let now = c.loop-event.kernel in
    let running = sym c.is_failed.ensures.failed ∙ c.if-is_failed.false in
    let led = c.loop-event.invariant.led in
    subst (λ s. remaining start.circuit start.end s < remaining start.circuit start.end now.state)
    (next_state led c.apply.new.self c.in-Some.event c.in_ok-apply.ensures.ok c.in-Some.ensures.some.0)
    (c.progress_left.ensures.useful start.circuit (c.is_failed.ensures.circuit running) start.end now.state led.sound c.in-Some.event
    (led_exists led c.in-Some.event c.in-Some.ensures.some.0) c.in-Some.ensures.some.1)

pub loop-event-preserved : goal.loop-event-preserved
loop-event-preserved g c =
    let running = sym c.is_failed.ensures.failed ∙ c.if-is_failed.false in
    let led = c.loop-event.invariant.led in
    record {
      led = led_event led c.apply.new.self c.in-Some.event c.in_ok-apply.ensures.ok c.in-Some.ensures.some.0 running c.in_ok-apply.ensures.outcome.sound;
      useful = useful_event led c.apply.new.self c.in-Some.event c.in_ok-apply.ensures.ok c.in-Some.ensures.some.0 c.loop-event.invariant.useful
          c.in-Some.ensures.some.1;
    }

pub returns-clause-ok : goal.returns-clause-ok
returns-clause-ok g c =
    let running = sym c.is_failed.ensures.failed ∙ c.if-is_failed.false in
    completed c.loop-event.invariant.led (c.is_failed.ensures.circuit running) (c.is_failed.ensures.sound running) (c.in_default.ensures.none.0 refl) c.in_default.ensures.frontiers c.in_default.ensures.waves
    c.in_default.ensures.undrained

pub returns-clause-useful : goal.returns-clause-useful
returns-clause-useful g c = c.loop-event.invariant.useful

pub returns-clause-bound : goal.returns-clause-bound
returns-clause-bound g c =
    let start = c.args.kernel.now in
    let running = sym c.is_failed.ensures.failed ∙ c.if-is_failed.false in
    count_within start.circuit start.end start.state c.loop-event.kernel.state c.loop-event.count
    (c.no_deadlock.ensures.bound start.circuit (c.is_failed.ensures.circuit running) start.end start.state (c.is_failed.ensures.sound running))
    c.loop-event.invariant.useful
