use Rattle.std.proofs.Common.{◌||◌, map, not, sym, ap, ◌∙◌, option_map}
use Rattle.std.specs.List.{find, list_any}
use Rattle.mistakes.specs.BenchLines.{defines, is_net}
use Rattle.explanations.proofs.Left.{find-left}
use Rattle.explanations.proofs.undefined.undefined_in.Goals as goal

-- the first name that is left is not that of the line, and so on with the lines behind it
pub loop-code-preserved : goal.loop-code-preserved
loop-code-preserved c =
    let later = c.next.new.self in
    let names = map (λ name. name.now) c.loop-code.left.items in
    ap (find (λ name. not (list_any (defines name) later))) c.take_out.ensures
    ∙ sym (find-left (is_net (option_map (λ net. net.now) c.defined_by.result)) (λ name. list_any (defines name) later) names)
    ∙ ap (λ net. find (λ name. not (is_net net name || list_any (defines name) later)) names) c.defined_by.ensures
    ∙ ap (λ lines. find (λ name. not (list_any (defines name) lines)) names) (sym c.in-Some.ensures.steps)
    ∙ c.loop-code.invariant
