use Rattle.std.proofs.Common.{◌≤◌, ap, sym, subst, ◌∙◌}
use Rattle.gate_process.specs.Outputs.{state_of}
use Rattle.gate_process.specs.Quiet.{IsQuiet}
use Rattle.gate_process.specs.Step.{ProcessState, ProcessView, drained}
use Rattle.gate_process.specs.Truth.{IsProcess}
use Rattle.gate_process.proofs.Drained.{drained_is_process}
use Rattle.gate_process.proofs.Quiet.{quiet_drained}
use Rattle.gate_process.proofs.process.Process.drain_below_into.Goals as goal
use Rattle.gate_process.proofs.process.Process.drain_below_into.Goals.{After-drain_below_into}

keeps : (c : After-drain_below_into) → IsProcess (drained c.args.bound (state_of c.self.inside.output c.self.inside.received.items))
keeps c =
    let process = state_of c.self.inside.output c.self.inside.received.items in
    let ok = c.self.invariant (ap (λ (view : ProcessView). view.failed) c.self.view_is ∙ c.requires.running) in
    drained_is_process process c.args.bound ok
    (subst (λ (p : ProcessState). c.args.bound ≤ p.known.frontier) (sym (ap (λ (view : ProcessView). view.state) c.self.view_is)) c.requires.known)

pub invariant_of-self-2 : goal.invariant_of-self-2
invariant_of-self-2 c = λ running.
    let at = (goal.at.invariant_of-self-2 c).After-drain_below_into in
    subst (λ output. IsProcess (state_of output c.self.inside.received.items)) (sym c.in_ok-drain_below_into.ensures.ok) (keeps at)

pub returns-clause-quiet : goal.returns-clause-quiet
returns-clause-quiet c = λ quiet.
    let at = (goal.at.returns-clause-quiet c).After-drain_below_into in
    let process = state_of c.self.inside.output c.self.inside.received.items in
    subst (λ output. IsQuiet (state_of output c.self.inside.received.items)) (sym c.in_ok-drain_below_into.ensures.ok)
    (quiet_drained process c.args.bound (keeps at) (subst IsQuiet (sym (ap (λ (view : ProcessView). view.state) c.self.view_is)) quiet))
