-- Texts cut at a byte, and what a line says.
use Rattle.std.proofs.Common.{◌≡◌, ℕ, ◌≤◌, ◌||◌, not, Bool, true, false, cond, ltb, List, [], ◌∷◌, length, Some, None, refl, sym, ap, arith}
use Rattle.std.specs.List.{list_any, position, position_or_len, slice_split, onto_first, filter}
use Rattle.std.specs.Option.{unwrap_or}
use Rattle.std.proofs.lemmas.Bool.Decides.{nat_tests}
use Rattle.std.proofs.lemmas.List.Elements.{All-from_get_or}
use Rattle.std.proofs.lemmas.List.Splits.{slice_split_none}
use Rattle.std.proofs.lemmas.List.Sums.{prefix_len-le-length, fails_before_first}
use Rattle.texts.specs.Text.{is_empty, is_white, words_of}

-- `position`, and the length where it has no answer
pub unwrap_or-position : (p : ℕ → Bool) (xs : List ℕ) → unwrap_or (position p xs) (length xs) ≡ position_or_len p xs
unwrap_or-position p xs = go (ltb (position_or_len p xs) (length xs)) refl
  where
    go : (b : Bool) → ltb (position_or_len p xs) (length xs) ≡ b → unwrap_or (cond b (Some (position_or_len p xs)) None) (length xs) ≡ position_or_len p xs
    go true within = refl
    go false past = let bound = prefix_len-le-length (λ x. not (p x)) xs in grind (arith, nat_tests)

-- where no element passes, a list is the one part
pub slice_split-uncut : (p : ℕ → Bool) (xs : List ℕ) → length xs ≤ position_or_len p xs → slice_split p xs ≡ xs ∷ []
slice_split-uncut p xs past =
    slice_split_none p xs (All-from_get_or (λ x. p x ≡ false) xs 0 (λ i inside. fails_before_first p xs i 0 (omega arith)))

-- a byte that is not white space makes the first part a word
some_word : (byte : ℕ) (parts : List (List ℕ)) → is_empty (filter (λ part. not (is_empty part)) (onto_first byte parts)) ≡ false
some_word byte [] = refl
some_word byte (part ∷ parts) = refl

-- a line has words where some byte is not white space
pub list_any-has_words : (line : List ℕ) → list_any (λ byte. not (is_white byte)) line ≡ not (is_empty (words_of line))
list_any-has_words [] = refl
list_any-has_words (byte ∷ line) = go (is_white byte) (list_any-has_words line)
  where
    go : (b : Bool) → list_any (λ other. not (is_white other)) line ≡ not (is_empty (words_of line)) →
        (not b || list_any (λ other. not (is_white other)) line)
        ≡ not (is_empty (filter (λ part. not (is_empty part)) (cond b ([] ∷ slice_split is_white line) (onto_first byte (slice_split is_white line)))))
    go true rest = rest
    go false rest = ap not (sym (some_word byte (slice_split is_white line)))
