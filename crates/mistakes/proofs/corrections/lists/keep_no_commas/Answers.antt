use Rattle.std.proofs.Common.{rules, tests, map, not, ap, ◌∙◌}
use Rattle.std.proofs.lemmas.Fn.{filter_same}
use Rattle.mistakes.specs.BenchLists.{is_comma}
use Rattle.mistakes.proofs.Mapped.{map-filter}
use Rattle.mistakes.proofs.corrections.lists.keep_no_commas.Goals as goal

pub returns : goal.returns
returns c =
    ap (map (λ word. word.now)) (filter_same _ (λ word. not (is_comma word.now)) _ (λ x b q r. search (rules, tests)) _ _ c.retain.ensures.filtered)
    ∙ map-filter (λ word. word.now) (λ word. not (is_comma word)) c.args.words.now.items
