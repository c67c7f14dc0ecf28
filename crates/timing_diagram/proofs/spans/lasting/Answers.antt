use Rattle.std.proofs.Common.{◌≡◌, ◌∙◌, ◌+◌, ◌-◌, ℕ, Bool, ap, arith, false, map, not, sym}
use Rattle.logic3.specs.Wave.{value_at}
use Rattle.timing_diagram.specs.Bus.{are_alike}
use Rattle.timing_diagram.proofs.Bits.{one_on, passed_over}
use Rattle.timing_diagram.proofs.spans.lasting.Goals as goal

pub loop-later-preserved : goal.loop-later-preserved
loop-later-preserved c =
    let later = c.loop-later.later in
    let differs : ℕ → Bool = λ other. not (are_alike (map value_at c.args.bits.now) c.args.columns c.args.column other) in
    let fails : differs later ≡ false = ap not (sym c.are_alike.ensures ∙ c.if-not-are_alike.false) in
    one_on later c.args.column _ (omega (arith, c.loop-later.auto.later))
    ∙ ap (λ n. later - c.args.column + n) (sym (passed_over differs later c.count-count.result c.loop-later-test.true fails))
    ∙ c.loop-later.invariant
