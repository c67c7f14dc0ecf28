use Rattle.std.proofs.Common.{ap, ◌∙◌, subst, arith}
use Rattle.logic3.specs.Rising.{TicksRise}
use Rattle.logic3.specs.Wave.{Wave}
use Rattle.gate_process.specs.LaterChanges.{first_tick}
use Rattle.gate_process.proofs.Passed.{steady_before_first, first_after}
use Rattle.gate_process.proofs.cursor.Cursor.next_change.Goals as goal

pub returns-clause-later : goal.returns-clause-later
returns-clause-later c = λ tick early after.
    let next = c.self.invariant.1 ∙ ap (λ (wave : Wave). first_tick wave.changes) c.self.view_is in
    let late = first_after c.args.self.now.changes tick after (omega arith) in
    let min = c.min.ensures in
    omega (arith, early, late, min, next)

pub returns-clause-steady : goal.returns-clause-steady
returns-clause-steady c = λ t early.
    let next = c.self.invariant.1 ∙ ap (λ (wave : Wave). first_tick wave.changes) c.self.view_is in
    steady_before_first c.args.self.now.before c.args.self.now.changes t
    (subst (λ (wave : Wave). TicksRise wave.changes) c.self.view_is c.self.invariant.0) (omega (arith, early, c.min.ensures, next))
