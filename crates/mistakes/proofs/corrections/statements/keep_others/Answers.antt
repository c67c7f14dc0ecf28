use Rattle.std.proofs.Common.{rules, tests, bytes_eq, map, not, ap, ◌∙◌}
use Rattle.std.proofs.lemmas.Fn.{filter_same}
use Rattle.mistakes.proofs.Mapped.{map-filter}
use Rattle.mistakes.proofs.corrections.statements.keep_others.Goals as goal

pub returns : goal.returns
returns c =
    ap (map (λ word. word.now)) (filter_same _ (λ word. not (bytes_eq word.now c.args.mark.now)) _ (λ x b q r. search (rules, tests)) _ _ c.retain.ensures.filtered)
    ∙ map-filter (λ word. word.now) (λ word. not (bytes_eq word c.args.mark.now)) c.args.words.now.items
