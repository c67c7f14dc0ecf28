use Rattle.std.proofs.Common.{rules, tests, sym, ◌∙◌}
use Rattle.std.proofs.lemmas.Iterator.{YieldsList-from_slice}
use Rattle.std.proofs.lemmas.Iterator.Search.{any_from_yields_List}
use Rattle.mistakes.specs.Near.{differ_by_case}
use Rattle.mistakes.proofs.Mapped.{list_any-map}
use Rattle.mistakes.proofs.near.has_by_case.Goals as goal

pub returns : goal.returns
returns c =
    any_from_yields_List (λ one. differ_by_case c.args.name.now one.now) _ _ _ c.any.ensures.ran
    (YieldsList-from_slice c.args.names.now (cc)) (λ x b q k. search (rules, tests))
    ∙ sym (list_any-map (differ_by_case c.args.name.now) (λ one. one.now) c.args.names.now)
