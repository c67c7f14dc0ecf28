-- The words of a line, taken from its front.
use Rattle.std.proofs.Common.{◌≡◌, ℕ, ◌<◌, not, Bool, true, false, List, [], ◌∷◌, length, take, drop, refl, arith, one-add}
use Rattle.std.specs.List.{filter, slice_split, prefix_len, position_or_len}
use Rattle.texts.specs.Text.{is_empty, is_white, words_of}

-- where a line is cut first: the bytes at its front that are not white, and then what its words are cut from
record FirstPiece (line : List ℕ) : Type 0 where
  rest : List (List ℕ)
  pieces : slice_split is_white line ≡ take (position_or_len is_white line) line ∷ rest
  same_words : filter (λ piece. not (is_empty piece)) rest ≡ words_of (drop (position_or_len is_white line) line)

first_piece : (line : List ℕ) → FirstPiece line
first_piece [] = record { rest = []; pieces = refl; same_words = refl }
first_piece (byte ∷ line) = go (is_white byte) refl (first_piece line)
  where
    go : (white : Bool) → is_white byte ≡ white → FirstPiece line → FirstPiece (byte ∷ line)
    go true w next = record { rest = slice_split is_white line; pieces = rw w refl; same_words = rw (w, w) refl }
    go false w next = record { rest = next.rest; pieces = rw (w, one-add, next.pieces) refl; same_words = rw (w, one-add) next.same_words }

-- white space comes first, and then a word or nothing
pub words_of-split : (line : List ℕ) →
    let word_on = drop (prefix_len is_white line) line in
    0 < length word_on →
    words_of line ≡ take (position_or_len is_white word_on) word_on ∷ words_of (drop (position_or_len is_white word_on) word_on)
words_of-split [] = λ some. absurd (omega arith)
words_of-split (byte ∷ line) = go (is_white byte) refl (words_of-split line)
  where
    go : (white : Bool) → is_white byte ≡ white →
        (let word_on = drop (prefix_len is_white line) line in
        0 < length word_on →
        words_of line ≡ take (position_or_len is_white word_on) word_on ∷ words_of (drop (position_or_len is_white word_on) word_on)) →
        let word_on = drop (prefix_len is_white (byte ∷ line)) (byte ∷ line) in
        0 < length word_on →
        words_of (byte ∷ line) ≡ take (position_or_len is_white word_on) word_on ∷ words_of (drop (position_or_len is_white word_on) word_on)
    go true w rest = rw (w, one-add) rest
    go false w rest = rw w (λ some. let cut = first_piece line in rw (w, one-add, cut.pieces, cut.same_words) refl)

-- a line of white space has none
pub words_of-white : (line : List ℕ) → length (drop (prefix_len is_white line) line) ≡ 0 → words_of line ≡ []
words_of-white [] = λ none. refl
words_of-white (byte ∷ line) = go (is_white byte) refl (words_of-white line)
  where
    go : (white : Bool) → is_white byte ≡ white → (length (drop (prefix_len is_white line) line) ≡ 0 → words_of line ≡ []) →
        length (drop (prefix_len is_white (byte ∷ line)) (byte ∷ line)) ≡ 0 → words_of (byte ∷ line) ≡ []
    go true w rest = rw (w, one-add) rest
    go false w rest = rw w (λ none. absurd (omega arith))
