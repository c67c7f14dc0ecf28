use Rattle.std.proofs.Common.{◌+◌, ap, ◌∙◌}
use Rattle.cmb_kernel.specs.State.{KernelView, floor_at}
use Rattle.cmb_kernel.proofs.CallerLemmas.{started_floor, steps_floor}
use Rattle.kernel_runs.proofs.kernel_calls.kernel_after_events.Goals as goal

pub returns-clause-undrained : goal.returns-clause-undrained
returns-clause-undrained g c = λ net.
    ap (λ (k : KernelView). floor_at k.state net) c.in_ok-apply_all.ensures.ok
    ∙ steps_floor c.in_ok-kernel.kernel.state c.events.result.now net
    ∙ ap (λ (k : KernelView). floor_at k.state net) c.in_ok-kernel.ensures
    ∙ started_floor c.args.run.now.design.circuit (c.args.run.now.horizon + 1) net
