use Rattle.std.proofs.Common.{rules, tests, map, ap, ◌∙◌}
use Rattle.std.proofs.lemmas.Fn.{filter_same}
use Rattle.mistakes.specs.Near.{is_near}
use Rattle.mistakes.proofs.Mapped.{map-filter}
use Rattle.mistakes.proofs.near.keep_near.Goals as goal

pub returns : goal.returns
returns c =
    ap (map (λ one. one.now)) (filter_same _ (λ one. is_near c.args.name.now one.now) _ (λ x b q r. search (rules, tests)) _ _ c.retain.ensures.filtered)
    ∙ map-filter (λ one. one.now) (is_near c.args.name.now) c.args.names.now.items
