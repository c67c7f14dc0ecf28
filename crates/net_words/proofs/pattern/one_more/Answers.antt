use Rattle.std.proofs.Common.{◌∙◌, ◌+◌, ◌++◌, ◌∷◌, [], ap, length, length-append, sym}
use Rattle.net_words.specs.Pattern.{passing, takes}
use Rattle.net_words.proofs.Passing.{passing-more}
use Rattle.net_words.proofs.pattern.one_more.Goals as goal

pub loop-left-preserved : goal.loop-left-preserved
loop-left-preserved c =
    let name = c.args.name.now in
    let left = c.loop-left.left in
    record {
      count = ap length c.in_ok-push.ensures.items ∙ length-append c.loop-left.more.items (c.takes-takes.result ∷ []) ∙ ap (λ n. n + 1) c.loop-left.invariant.count;
      known = λ passes known.
          let fewer = c.loop-left.invariant.known passes known in
          c.in_ok-push.ensures.items ∙ ap (λ more. more ++ c.takes-takes.result ∷ []) fewer
          ∙ ap (λ is. passing (takes c.args.byte passes) name left ++ is ∷ []) (c.takes-takes.ensures passes known (c.as_slice.ensures.value ∙ fewer))
          ∙ sym (passing-more (takes c.args.byte passes) name left);
    }
