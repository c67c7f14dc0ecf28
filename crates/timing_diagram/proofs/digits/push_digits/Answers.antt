use Rattle.std.proofs.Common.{arith, ◌∙◌, ◌-◌, ◌++◌, ◌∷◌, [], ap, map}
use Rattle.logic3.specs.Wave.{value_at}
use Rattle.timing_diagram.specs.Bus.{digit_at}
use Rattle.timing_diagram.proofs.Joined.{map-more}
use Rattle.timing_diagram.proofs.digits.push_digits.Goals as goal

pub loop-place-preserved : goal.loop-place-preserved
loop-place-preserved c =
    map-more (λ place. digit_at (map value_at c.args.bits.now) c.args.tick (c.digit_count-count.result - 1 - place)) c.loop-place.place c.digit_count-count.result _ _ (omega arith)
    (c.in_ok-push.ensures.items ∙ ap (λ byte. c.loop-place.text.items ++ byte ∷ []) c.digit_at.ensures)
    ∙ c.loop-place.invariant
