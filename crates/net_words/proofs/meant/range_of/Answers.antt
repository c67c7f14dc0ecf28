use Rattle.std.proofs.Common.{◌≡◌, ◌∙◌, None, ap, length, option_map, rules, slice_get, sym}
use Rattle.net_words.specs.Meant.{range_at, seen_range}
use Rattle.net_words.proofs.AllFound.{given_first, given_later}
use Rattle.net_words.proofs.meant.range_of.Goals as goal

pub returns-in-Some-clause-exact : goal.returns-in-Some-clause-exact
returns-in-Some-clause-exact c =
    let word = c.args.word.now in
    sym (given_first (range_at word) c.loop-place.place (length word) c.loop-place-test.true (seen_range c.in-Some.range)
    (sym c.range_at.ensures.exact ∙ ap (option_map seen_range) c.in-Some.is))
    ∙ c.loop-place.invariant

pub loop-place-preserved : goal.loop-place-preserved
loop-place-preserved c =
    let word = c.args.word.now in
    let none : c.range_at.result ≡ None = search rules in
    ap (λ ranges. slice_get ranges 0) (given_later (range_at word) c.loop-place.place (length word) c.loop-place-test.true
    (sym c.range_at.ensures.exact ∙ ap (option_map seen_range) none))
    ∙ c.loop-place.invariant
