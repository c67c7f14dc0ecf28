use Rattle.std.proofs.Common.{◌≡◌, ℕ, ◌+◌, ◌-◌, ◌<◌, List, ◌++◌, length, get_or, take, drop, map, ap, ◌∙◌, arith}
use Rattle.std.proofs.lemmas.List.{get_or-append_right, get_or-drop, get_or_default, length-map, length-take-le}
use Rattle.std.proofs.lemmas.List.Edits.{map_over_more}
use Rattle.netlist.specs.Pick.{place_in}
use Rattle.netlist.proofs.pick.renumber.Goals as goal

-- the next number is as it was
next_is : (f : ℕ → ℕ) (before numbers : List ℕ) (i : ℕ) → i < length before → numbers ≡ map f (take i before) ++ drop i before →
    get_or numbers i 0 ≡ get_or before i 0
next_is f before numbers i inside are =
    let first : i + (i - i) ≡ i = omega arith in
    ap (λ numbers. get_or numbers i 0) are
    ∙ get_or-append_right (map f (take i before)) (drop i before) i i 0 (length-map (take i before) f ∙ length-take-le i before (omega arith)) (omega arith)
    ∙ get_or-drop i before (i - i) 0 ∙ ap (λ k. get_or before k 0) first

pub place_in-requires-clause-kept : goal.place_in-requires-clause-kept
place_in-requires-clause-kept c =
    rw (next_is (place_in c.args.keep.now) c.args.numbers.now c.loop-number.numbers c.loop-number.number-index c.loop-number-test.true c.loop-number.invariant)
    (c.requires.kept c.loop-number.number-index 0 c.loop-number-test.true)

pub loop-number-preserved : goal.loop-number-preserved
loop-number-preserved c =
    rw c.place_in.ensures
    (map_over_more (place_in c.args.keep.now) c.args.numbers.now c.loop-number.numbers c.loop-number.number-index _ c.loop-number-test.true c.loop-number.invariant
    (get_or_default c.loop-number.numbers c.loop-number.number-index 0 _ (omega arith)))
