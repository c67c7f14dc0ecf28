use Rattle.std.proofs.Common.{◌<◌, ◌++◌, sym, ap, subst, ◌∙◌}
use Rattle.std.specs.Prelude.{All}
use Rattle.logic3.specs.declared.change.Change.{Change}
use Rattle.logic3.specs.Wave.{Wave, value_at}
use Rattle.gate_process.specs.Knowledge.{unknown_from}
use Rattle.gate_process.proofs.Passed.{steady_before_first, after_before_first}
use Rattle.gate_process.proofs.cursor.Cursor.go_to.Goals as goal

pub returns-then-tick-self-clause-value : goal.returns-then-tick-self-clause-value
returns-then-tick-self-clause-value c =
    sym (steady_before_first c.self.inside.value (c.self.inside.later ++ unknown_from c.self.inside.unknown) c.args.tick c.self.invariant.0
    (subst (λ first. c.args.tick < first) c.self.invariant.1 c.if-tick-self.true))
    ∙ ap (λ (wave : Wave). value_at wave c.args.tick) c.self.view_is

pub returns-then-tick-self-clause-passed : goal.returns-then-tick-self-clause-passed
returns-then-tick-self-clause-passed c =
    subst (λ (wave : Wave). All (λ (change : Change). c.args.tick < change.tick) wave.changes) c.self.view_is
    (after_before_first (c.self.inside.later ++ unknown_from c.self.inside.unknown) c.args.tick c.self.invariant.0
    (subst (λ first. c.args.tick < first) c.self.invariant.1 c.if-tick-self.true))
