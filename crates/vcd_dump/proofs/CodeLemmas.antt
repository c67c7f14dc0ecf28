-- The identifier codes: character by character, distinct, short, and no keywords.
use Rattle.std.proofs.Common.{◌≡◌, ℕ, zero, suc, ◌+◌, ◌-◌, ◌*◌, ◌/◌, ◌%◌, ◌<◌, ◌≤◌, nat_lt, Bool, true, false, cond, List, [], ◌∷◌, ◌++◌, length, get_or, refl, ap, sym, ◌∙◌, ◌⊎◌, inl, inr, lit<, arith, add-one, ltb-false}
use borrow.Author.Tests.{ltb-true}
use Rattle.std.specs.Prelude.{Contains}
use Rattle.std.specs.List.{AllByRecursion}
use Rattle.std.proofs.lemmas.Bool.{cases_lt, lt-ltb, le-ltb}
use Rattle.std.proofs.lemmas.Bool.Decides.{nat_tests}
use Rattle.std.proofs.lemmas.List.{get_or_append_left, get_or_push, length_push}
use Rattle.std.proofs.lemmas.List.Elements.{All-from_recursion, All-contains}
use Rattle.vcd_dump.specs.Codes.{code_within, code_at, AreCodes}
use Rattle.vcd_dump.specs.Dump.{dump_keywords}
use Rattle.vcd_dump.proofs.Tokens.{IsWordByte, IsToken, IsToken-from_bytes}

-- ---- character by character

-- any number of characters above the place is enough
code_within-enough : (m n place : ℕ) → place < m → place < n → code_within m place ≡ code_within n place
code_within-enough zero n place a b = absurd (omega arith)
code_within-enough (suc m) zero place a b = absurd (omega arith)
code_within-enough (suc m) (suc n) place a b =
    ap (λ tail. (33 + place % 94) ∷ tail) (go (nat_lt place 94) refl (λ x y. code_within-enough m n (place / 94 - 1) x y))
  where
    go : (last : Bool) → nat_lt place 94 ≡ last →
        (place / 94 - 1 < m → place / 94 - 1 < n → code_within m (place / 94 - 1) ≡ code_within n (place / 94 - 1)) →
        cond last [] (code_within m (place / 94 - 1)) ≡ cond last [] (code_within n (place / 94 - 1))
    go true e same = refl
    go false e same = let high : 94 ≤ place = omega (arith, ltb-false) in same (omega arith) (omega arith)

-- from place 94 on the code is one character and the code behind it
pub code_at-step : (place : ℕ) → 94 ≤ place → code_at place ≡ (33 + place % 94) ∷ code_at (place / 94 - 1)
code_at-step place high =
    rw (add-one place, le-ltb place 94 high)
    (ap (λ tail. (33 + place % 94) ∷ tail) (code_within-enough place (place / 94 - 1 + 1) (place / 94 - 1) (omega arith) (omega arith)))

-- below it the character alone
pub code_at-last : (place : ℕ) → place < 94 → code_at place ≡ (33 + place % 94) ∷ []
code_at-last place low = rw (add-one place, lt-ltb place 94 low) refl

-- no code is empty
pub code_at-some : (place : ℕ) → 0 < length (code_at place)
code_at-some place = rw (add-one place) (omega arith)

-- one more
pub AreCodes-more : (known : List (List ℕ)) (place : ℕ) (code : List ℕ) → AreCodes known → length known ≡ place → code ≡ code_at place →
    AreCodes (known ++ code ∷ [])
AreCodes-more known place code so_far many is = λ k other within. go k other within (cases_lt k (length known))
  where
    go : (k : ℕ) (other : List ℕ) → k < length (known ++ code ∷ []) → (k < length known) ⊎ (length known ≤ k) →
        get_or (known ++ code ∷ []) k other ≡ code_at k
    go k other within (inl before) = get_or_append_left known (code ∷ []) other k before ∙ so_far k other before
    go k other within (inr last) =
        let here : k ≡ length known = omega (arith, length_push known code) in
        ap (λ n. get_or (known ++ code ∷ []) n other) here ∙ get_or_push known code other (length known) refl
        ∙ is ∙ ap code_at (sym many ∙ sym here)

-- ---- distinct, short, and no keywords

-- where the characters behind the first are the same, so are the places' quotients
tail_same : (m n i j : ℕ) (a b : Bool) → nat_lt i 94 ≡ a → nat_lt j 94 ≡ b → i < suc m → j < suc n →
    (code_within m (i / 94 - 1) ≡ code_within n (j / 94 - 1) → i / 94 - 1 < m → j / 94 - 1 < n → i / 94 - 1 ≡ j / 94 - 1) →
    cond a [] (code_within m (i / 94 - 1)) ≡ cond b [] (code_within n (j / 94 - 1)) → i / 94 ≡ j / 94
tail_same m n i j true true p q x y same e = omega (arith, ltb-true)
tail_same m zero i j true false p q x y same e = absurd (omega (arith, ltb-false))
tail_same m (suc n) i j true false p q x y same e = cc
tail_same zero n i j false true p q x y same e = absurd (omega (arith, ltb-false))
tail_same (suc m) n i j false true p q x y same e = cc
tail_same m n i j false false p q x y same e =
    let high : 94 ≤ i = omega (arith, ltb-false) in
    let high' : 94 ≤ j = omega (arith, ltb-false) in
    let behind = same e (omega arith) (omega arith) in omega arith

-- codes with room for all their characters that are the same belong to one place
code_within-same : (m n i j : ℕ) → i < m → j < n → code_within m i ≡ code_within n j → i ≡ j
code_within-same zero n i j a b e = absurd (omega arith)
code_within-same (suc m) zero i j a b e = absurd (omega arith)
code_within-same (suc m) (suc n) i j a b e =
    let head : 33 + i % 94 ≡ 33 + j % 94 = cc in
    let tail : i / 94 ≡ j / 94 = tail_same m n i j (nat_lt i 94) (nat_lt j 94) refl refl a b
    (λ same x y. code_within-same m n (i / 94 - 1) (j / 94 - 1) x y same) (cc) in omega arith

-- places with the same code are the same
pub code_at-same : (i j : ℕ) → code_at i ≡ code_at j → i ≡ j
code_at-same i j e = code_within-same (i + 1) (j + 1) i j (omega arith) (omega arith) e

-- how many places have a code of so many characters at most
abbrev places_within : ℕ → ℕ
places_within zero = 0
places_within (suc characters) = 94 * (places_within characters + 1)

-- the codes of the first places are that short
length-code_within : (characters m place : ℕ) → place < places_within characters → length (code_within m place) ≤ characters
length-code_within zero m place h = absurd (omega arith)
length-code_within (suc characters) zero place h = omega arith
length-code_within (suc characters) (suc m) place h =
    go (nat_lt place 94) refl (λ early. length-code_within characters m (place / 94 - 1) early)
  where
    go : (b : Bool) → nat_lt place 94 ≡ b →
        (place / 94 - 1 < places_within characters → length (code_within m (place / 94 - 1)) ≤ characters) →
        suc (length (cond b [] (code_within m (place / 94 - 1)))) ≤ suc characters
    go true e behind = omega arith
    go false e behind =
        let late : 94 ≤ place = omega (arith, ltb-false) in
        let short = behind (omega arith) in omega arith

-- the code of a place below 100,000 has at most three characters
pub length-code_at : (place : ℕ) → place < 100_000 → length (code_at place) ≤ 3
length-code_at place h = length-code_within 3 (place + 1) place (omega arith)

-- each keyword has more characters
pub keyword_is_long : (word : List ℕ) → Contains dump_keywords word → 3 < length word
keyword_is_long word keyword =
    All-contains (λ w. 3 < length w) dump_keywords word
    (All-from_recursion (λ w. 3 < length w) dump_keywords
    (lit< tt, (lit< tt, (lit< tt, (lit< tt, (lit< tt, (lit< tt, (lit< tt, (lit< tt, tt)))))))))
    keyword

-- a character of a code is a byte of a word
code_byte : (place : ℕ) → IsWordByte (33 + place % 94)
code_byte place = let small : place % 94 < 94 = omega arith in grind (arith, nat_tests)

-- the bytes of a code are bytes of a word
pub code_within-word_bytes : (characters place : ℕ) → AllByRecursion IsWordByte (code_within characters place)
code_within-word_bytes zero place = tt
code_within-word_bytes (suc characters) place =
    (code_byte place, go (nat_lt place 94) (code_within-word_bytes characters (place / 94 - 1)))
  where
    go : (b : Bool) → AllByRecursion IsWordByte (code_within characters (place / 94 - 1)) →
        AllByRecursion IsWordByte (cond b [] (code_within characters (place / 94 - 1)))
    go true behind = tt
    go false behind = behind

-- a code is one token
pub IsToken-code_at : (place : ℕ) → IsToken (code_at place)
IsToken-code_at place =
    let behind = code_within place (place / 94 - 1) in
    rw (add-one place)
    (IsToken-from_bytes (33 + place % 94) (cond (nat_lt place 94) [] behind) (code_within-word_bytes (suc place) place))
