use Rattle.std.proofs.Common.{◌∙◌, arith, ap, sym}
use Rattle.timing_diagram.specs.Columns.{Ticks}
use Rattle.timing_diagram.specs.Ruler.{first_label}
use Rattle.timing_diagram.proofs.Rulers.{first_label-far}
use Rattle.timing_diagram.proofs.columns.Columns.first_label.Goals as goal

pub returns-then-self-clause-value : goal.returns-then-self-clause-value
returns-then-self-clause-value c =
    let ticks : Ticks = record { from = c.self.inside.from; to = c.self.inside.to; step = c.self.inside.step; at_end = c.self.inside.at_end } in
    sym (first_label-far ticks c.self.invariant.forward (omega (arith, c.if-self.true))) ∙ ap first_label c.self.view_is
