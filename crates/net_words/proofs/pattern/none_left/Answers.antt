use Rattle.std.proofs.Common.{◌∙◌, ◌++◌, ◌∷◌, ◌==◌, [], ap, sym, arith}
use Rattle.texts.specs.Text.{is_empty}
use Rattle.net_words.specs.Pattern.{passing}
use Rattle.net_words.proofs.Passing.{none-at, passing-more}
use Rattle.net_words.proofs.pattern.none_left.Goals as goal

pub loop-left-preserved : goal.loop-left-preserved
loop-left-preserved c =
    let name = c.args.name.now in
    let left = c.loop-left.left in
    c.in_ok-push.ensures.items ∙ ap (λ none. none ++ (c.loop-left.left == 0) ∷ []) c.loop-left.invariant
    ∙ ap (λ is. passing is_empty name left ++ is ∷ []) (none-at name left (omega (arith, c.loop-left-test.true)))
    ∙ sym (passing-more is_empty name left)
