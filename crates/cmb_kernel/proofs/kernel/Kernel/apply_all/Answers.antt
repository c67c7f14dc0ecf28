use Rattle.std.proofs.Common.{get_or, ap, sym, subst, ◌∙◌, arith, rules}
use Rattle.std.proofs.lemmas.List.Elements.{All-get_or}
use Rattle.std.proofs.lemmas.Result.{err_from_is_err_and}
use Rattle.cmb_kernel.specs.State.{KernelView}
use Rattle.cmb_kernel.specs.Step.{step}
use Rattle.cmb_events.specs.Schedule.{Exists}
use Rattle.cmb_events.specs.declared.event.Event.TheVariants.{Deliver}
use Rattle.cmb_kernel.proofs.Moved.{moved_on, steps_more}
use Rattle.cmb_kernel.proofs.Refused.{never_memory, all_exist}
use Rattle.cmb_kernel.proofs.kernel.Kernel.apply_all.Goals as goal

pub returns-in_err-check_events : goal.returns-in_err-check_events
returns-in_err-check_events g c =
    let lifted = err_from_is_err_and c.from_residual-in_err-check_events.result c.from_residual-in_err-check_events.ensures.1 in
    let other = never_memory c.self.inside.design.now.circuit c.args.events.now c.in_err-check_events.field-0.0 c.in_err-check_events.ensures in
    record {
      outcome = record {
        answer = search rules;
        ok = search rules;
        refused = search rules;
        memory = λ e. absurd (other (let a = lifted.1 in let b = lifted.2 in cc));
        sound = search rules;
      };
    }

pub step-requires-clause-exists : goal.step-requires-clause-exists
step-requires-clause-exists g c =
    let same = ap (λ (r : KernelView). r.circuit) c.self.view_is ∙ ap (λ (r : KernelView). r.circuit) (sym c.loop-event.invariant.run) in
    subst (λ circuit. Exists circuit (get_or c.args.events.now c.loop-event.event-index (Deliver 0))) same
    (All-get_or (Exists c.self.inside.design.now.circuit) c.args.events.now c.loop-event.event-index (Deliver 0) (omega arith)
    (all_exist c.self.inside.design.now.circuit c.args.events.now c.in_ok-check_events.field-0 c.in_ok-check_events.ensures))

pub loop-event-preserved : goal.loop-event-preserved
loop-event-preserved g c = record {
  run = moved_on c.args.self.now (λ s. step s (get_or c.args.events.now c.loop-event.event-index (Deliver 0))) c.loop-event.invariant.run c.in_ok-step.ensures.ok
      (steps_more c.args.self.now.state c.args.events.now c.loop-event.event-index (Deliver 0) (omega arith));
  sound = c.in_ok-step.ensures.sound;
}
