use Rattle.std.proofs.Common.{ap, sym, subst, ◌∙◌}
use Rattle.cmb_kernel.specs.State.{KernelView, State}
use Rattle.cmb_kernel.specs.Sweeps.{EventsLead}
use Rattle.kernel_runs.proofs.sweeps.sweep_once.Goals as goal

pub returns-in-Ok-clause-goes : goal.returns-in-Ok-clause-goes
returns-in-Ok-clause-goes g c =
    let start = c.args.kernel.now in
    let outcome = c.in-Ok.ensures.outcome in
    let state = sym (ap (λ (k : KernelView). k.state) outcome.ok) in
    record {
      run = outcome.ok ∙ ap (λ (s : State). record start { state = s }) state;
      sound = outcome.sound (ap (λ (k : KernelView). k.failed) outcome.ok ∙ c.requires.running);
      led = subst (EventsLead start.circuit start.state) state
          (c.sweeps.ensures.events start.circuit (c.is_failed.ensures.circuit c.requires.running) start.end start.state
          (c.is_failed.ensures.sound c.requires.running) c.args.tick c.args.nets.now c.requires.nets);
      none_falls = c.in-Ok.ensures.reaches.none_falls;
      floors = c.in-Ok.ensures.reaches.floors;
    }

pub returns-in-Ok-clause-farther : goal.returns-in-Ok-clause-farther
returns-in-Ok-clause-farther g c = c.in-Ok.ensures.reaches.farther
