use Rattle.std.proofs.Common.{rules, tests, map, ap, ◌∙◌}
use Rattle.std.proofs.lemmas.Fn.{filter_same}
use Rattle.explanations.specs.Missing.{is_alike}
use Rattle.mistakes.proofs.CallerLemmas.{map-filter}
use Rattle.explanations.proofs.missing.keep_alike.Goals as goal

pub returns : goal.returns
returns c =
    ap (map (λ one. one.now)) (filter_same _ (λ one. is_alike c.args.name.now one.now) _ (λ x b q r. search (rules, tests)) _ _ c.retain.ensures.filtered)
    ∙ map-filter (λ one. one.now) (is_alike c.args.name.now) c.args.nets.now.items
