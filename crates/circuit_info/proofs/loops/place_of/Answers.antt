use Rattle.std.proofs.Common.{◌<◌, length, get_or, sym, ap, ◌∙◌, arith, ⊎_elim}
use Rattle.std.proofs.lemmas.Bool.{cases_eq, cases_lt}
use Rattle.std.proofs.lemmas.List.{get_or_default}
use Rattle.circuit_info.proofs.loops.place_of.Goals as goal

pub loop-place-preserved : goal.loop-place-preserved
loop-place-preserved c earlier before is =
    let way = c.args.way.now in
    let inside : c.loop-place.place < length way = ⊎_elim
    (λ less. less)
    (λ past. absurd (c.loop-place.invariant c.requires.0 (omega (arith, past, c.requires.1))
    (get_or_default way c.requires.0 0 c.args.net c.requires.1 ∙ c.requires.2)))
    (cases_lt c.loop-place.place (length way)) in
    ⊎_elim
    (λ same. c.loop-place-test.true (get_or_default way c.loop-place.place _ 0 inside ∙ ap (λ k. get_or way k 0) (sym same) ∙ is))
    (λ apart. c.loop-place.invariant earlier (omega (arith, before, apart)) is)
    (cases_eq earlier c.loop-place.place)
