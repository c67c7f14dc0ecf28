use Rattle.std.proofs.Common.{rules, tests, not, bytes_eq, map, ap, sym, ◌∙◌}
use Rattle.std.proofs.lemmas.Fn.{filter_same}
use Rattle.mistakes.proofs.CallerLemmas.{map-filter}
use Rattle.explanations.proofs.Left.{filter-all}
use Rattle.explanations.proofs.undefined.take_out.Goals as goal

pub returns-in-Some : goal.returns-in-Some
returns-in-Some c =
    rw c.in-Some.is
    (ap (map (λ name. name.now)) (filter_same _ (λ name. not (bytes_eq name.now c.in-Some.defined.now)) _ (λ x b q r. search (rules, tests)) _ _ c.retain.ensures.filtered)
    ∙ map-filter (λ name. name.now) (λ name. not (bytes_eq name c.in-Some.defined.now)) c.args.left.now.items)

pub returns-in_default : goal.returns-in_default
returns-in_default c = rw c.in_default.is (sym (filter-all (map (λ name. name.now) c.args.left.now.items)))
