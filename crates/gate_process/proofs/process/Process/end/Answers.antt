use Rattle.std.proofs.Common.{ap, ◌∙◌, arith}
use Rattle.gate_process.specs.Step.{ProcessView}
use Rattle.gate_process.proofs.process.Process.end.Goals as goal

pub returns-clause-most : goal.returns-clause-most
returns-clause-most c =
    let formed = c.self.invariant (ap (λ (view : ProcessView). view.failed) c.self.view_is ∙ c.requires.running) in
    omega (arith, c.end.ensures, formed.end)
