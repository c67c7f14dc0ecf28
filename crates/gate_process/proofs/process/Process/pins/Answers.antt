use Rattle.std.proofs.Common.{length, ap, ◌∙◌, arith}
use Rattle.gate_process.specs.Step.{ProcessView}
use Rattle.gate_process.proofs.Nets.{takes_few}
use Rattle.gate_process.proofs.process.Process.pins.Goals as goal

pub overflow_cast-result : goal.overflow_cast-result
overflow_cast-result c =
    let formed = c.self.invariant (ap (λ (view : ProcessView). view.failed) c.self.view_is ∙ c.requires.running) in
    omega (arith, takes_few c.self.inside.output.net.part (length c.self.inside.output.net.pins) formed.arity, formed.pins, c.len.ensures)

pub returns-clause-count : goal.returns-clause-count
returns-clause-count c = omega (arith, c.len.ensures, ap (λ (process : ProcessView). length process.state.received) c.self.view_is)

pub returns-clause-most : goal.returns-clause-most
returns-clause-most c =
    let formed = c.self.invariant (ap (λ (view : ProcessView). view.failed) c.self.view_is ∙ c.requires.running) in
    omega (arith, takes_few c.self.inside.output.net.part (length c.self.inside.output.net.pins) formed.arity, formed.pins, c.len.ensures)
