use Rattle.std.proofs.Common.{rules, tests, map, ap, ◌∙◌}
use Rattle.std.proofs.lemmas.Fn.{filter_same}
use Rattle.mistakes.specs.Near.{differ_by_case}
use Rattle.mistakes.proofs.Mapped.{map-filter}
use Rattle.mistakes.proofs.near.keep_by_case.Goals as goal

pub returns : goal.returns
returns c =
    ap (map (λ one. one.now)) (filter_same _ (λ one. differ_by_case c.args.name.now one.now) _ (λ x b q r. search (rules, tests)) _ _ c.retain.ensures.filtered)
    ∙ map-filter (λ one. one.now) (differ_by_case c.args.name.now) c.args.names.now.items
