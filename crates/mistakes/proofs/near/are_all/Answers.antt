use Rattle.std.proofs.Common.{rules, tests, bytes_eq, sym, ◌∙◌}
use Rattle.std.proofs.lemmas.Iterator.{YieldsList-from_slice}
use Rattle.std.proofs.lemmas.Iterator.Search.{all_from_yields_List}
use Rattle.std.proofs.lemmas.List.Folds.{list_all-map}
use Rattle.mistakes.proofs.near.are_all.Goals as goal

pub returns : goal.returns
returns c =
    all_from_yields_List (λ one. bytes_eq c.args.name.now one.now) _ _ _ c.all.ensures.ran
    (YieldsList-from_slice c.args.names.now (cc)) (λ x b q k. search (rules, tests))
    ∙ sym (list_all-map (bytes_eq c.args.name.now) (λ one. one.now) c.args.names.now)
