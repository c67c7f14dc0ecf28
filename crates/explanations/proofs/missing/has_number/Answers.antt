use Rattle.std.proofs.Common.{rules, tests, sym, ◌∙◌}
use Rattle.std.proofs.lemmas.Iterator.{YieldsList-from_slice}
use Rattle.std.proofs.lemmas.Iterator.Search.{any_from_yields_List}
use Rattle.explanations.specs.Missing.{is_number}
use Rattle.mistakes.proofs.CallerLemmas.{list_any-map}
use Rattle.explanations.proofs.missing.has_number.Goals as goal

pub returns : goal.returns
returns c =
    any_from_yields_List (λ net. is_number net.now) _ _ _ c.any.ensures.ran
    (YieldsList-from_slice c.args.nets.now (cc)) (λ x b q k. search (rules, tests))
    ∙ sym (list_any-map is_number (λ net. net.now) c.args.nets.now)
