-- Whole lines: a form takes all of their words, and the only correction of a table makes such lines.
use Rattle.std.proofs.Common.{◌≡◌, ℕ, suc, ◌+◌, ◌≤◌, ◌&&◌, ◌||◌, not, max, Bool, true, false, cond, List, [], ◌∷◌, length, Option, None, Some, refl, sym, subst, arith, true≢false}
use Rattle.std.specs.List.{list_all, list_any}
use Rattle.std.specs.Option.{option_map_or}
use Rattle.std.proofs.lemmas.Option.{none-some, same_Some}
use Rattle.mistakes.specs.Corrections.{Correction, Refused, applies, fits, fits_some, has_net, has_net_at, is_accepted, is_in_range, made, only}
use Rattle.mistakes.specs.Forms.{Slot, next}
use Rattle.mistakes.specs.Places.{place_of, taken}

and-first : (a b : Bool) → (a && b) ≡ true → a ≡ true
and-first true b e = refl
and-first false b e = e

and-then : (a b : Bool) → (a && b) ≡ true → b ≡ true
and-then true b e = e
and-then false b e = absurd (true≢false (sym e))

taken-within : (row : List Slot) (words : List (List ℕ)) → taken row words ≤ length words
taken-within row [] = omega arith
taken-within row (word ∷ words) = go (next row word) (λ after. taken-within after words)
  where
    go : (left : Option (List Slot)) → ((after : List Slot) → taken after words ≤ length words) →
        option_map_or (λ after. taken after words + 1) left 0 ≤ suc (length words)
    go None rest = omega arith
    go (Some after) rest = omega (arith, rest after)

taken-whole : (row : List Slot) (words : List (List ℕ)) → fits row words ≡ true → taken row words ≡ length words
taken-whole row [] whole = refl
taken-whole row (word ∷ words) whole = go (next row word) (λ after. taken-whole after words) whole
  where
    go : (left : Option (List Slot)) → ((after : List Slot) → fits after words ≡ true → taken after words ≡ length words) →
        option_map_or (λ after. fits after words) left false ≡ true →
        option_map_or (λ after. taken after words + 1) left 0 ≡ suc (length words)
    go None rest e = absurd (true≢false (sym e))
    go (Some after) rest e = omega (arith, rest after e)

place-within : (forms : List (List Slot)) (words : List (List ℕ)) → place_of forms words ≤ length words
place-within [] words = omega arith
place-within (row ∷ forms) words = omega (arith, taken-within row words, place-within forms words)

place-whole : (forms : List (List Slot)) (words : List (List ℕ)) → fits_some forms words ≡ true → place_of forms words ≡ length words
place-whole [] words e = absurd (true≢false (sym e))
place-whole (row ∷ forms) words e = go (fits row words) refl (place-whole forms words) e
  where
    go : (whole : Bool) → fits row words ≡ whole → (fits_some forms words ≡ true → place_of forms words ≡ length words) →
        (whole || fits_some forms words) ≡ true → max (taken row words) (place_of forms words) ≡ length words
    go true e rest some = omega (arith, taken-whole row words e, place-within forms words)
    go false e rest some = omega (arith, taken-within row words, rest some)

-- a line that its reader takes has a form from end to end
pub accepted-whole : (refused : Refused) (words : List (List ℕ)) → is_accepted refused words ≡ true →
    place_of refused.forms words ≡ length words
accepted-whole refused words e =
    place-whole refused.forms words (and-first (fits_some refused.forms words) (is_in_range refused.subject words) e)

only-applies : (refused : Refused) (table : List Correction) (one : Correction) → only refused table ≡ Some one → applies refused one ≡ true
only-applies refused [] one e = absurd (none-some one e)
only-applies refused (first ∷ others) one e =
    go (applies refused first) refl (list_any (applies refused) others) (only-applies refused others one) e
  where
    go : (b : Bool) → applies refused first ≡ b → (any : Bool) → (only refused others ≡ Some one → applies refused one ≡ true) →
        cond b (cond any None (Some first)) (only refused others) ≡ Some one → applies refused one ≡ true
    go true is true rest e = absurd (none-some one e)
    go true is false rest e = subst (λ other. applies refused other ≡ true) (same_Some first one e) is
    go false is any rest e = rest e

-- the only correction makes lines that their reader takes
pub only-accepted : (refused : Refused) (table : List Correction) (one : Correction) → only refused table ≡ Some one →
    list_all (λ pieces. is_accepted refused (made refused.words pieces)) one.lines ≡ true
only-accepted refused table one e =
    and-then (not (list_any (has_net refused) one.unused)) _
    (and-then (list_all (has_net_at refused) one.nets) _ (and-then (fits one.wrong refused.words) _ (only-applies refused table one e)))
