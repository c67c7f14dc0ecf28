-- The tokens of a line, taken from its front.
use Rattle.std.proofs.Common.{◌≡◌, ℕ, ◌<◌, not, Bool, true, false, List, [], ◌∷◌, length, take, drop, get_or, None, refl, sym, ap, ◌∙◌, arith, one-add}
use Rattle.std.specs.List.{slice_split, filter, flat_map, prefix_len}
use Rattle.std.proofs.lemmas.Bool.{false_from_ne_true}
use Rattle.std.proofs.lemmas.Bool.Decides.{nat_tests}
use Rattle.texts.specs.Text.{is_white, is_empty, words_of}
use Rattle.bench_text.specs.Line.{word, is_mark, spaced, token_of, tokens_of}
use Rattle.bench_text.specs.Seen.{is_word_byte, mark_of}

-- white space is no mark
pub is_mark-white : (byte : ℕ) → is_white byte ≡ true → is_mark byte ≡ false
is_mark-white byte white = grind (arith, nat_tests)

-- white space comes first: it is no part of a token
pub tokens_of-white : (byte : ℕ) (code : List ℕ) → is_white byte ≡ true → tokens_of (byte ∷ code) ≡ tokens_of code
tokens_of-white byte code white = rw (is_mark-white byte white, white) refl

pub tokens_of-past_white : (code : List ℕ) → tokens_of (drop (prefix_len is_white code) code) ≡ tokens_of code
tokens_of-past_white [] = refl
tokens_of-past_white (byte ∷ code) = go (is_white byte) refl (tokens_of-past_white code)
  where
    go : (white : Bool) → is_white byte ≡ white → tokens_of (drop (prefix_len is_white code) code) ≡ tokens_of code →
        tokens_of (drop (prefix_len is_white (byte ∷ code)) (byte ∷ code)) ≡ tokens_of (byte ∷ code)
    go true w rest = rw (w, one-add) (rest ∙ sym (tokens_of-white byte code w))
    go false w rest = rw w refl

-- where a line is cut first: the word bytes at its front, and then what its tokens are cut from
record FirstPiece (code : List ℕ) : Type 0 where
  rest : List (List ℕ)
  pieces : slice_split is_white (flat_map spaced code) ≡ take (prefix_len is_word_byte code) code ∷ rest
  same_words : filter (λ piece. not (is_empty piece)) rest ≡ words_of (flat_map spaced (drop (prefix_len is_word_byte code) code))

first_piece : (code : List ℕ) → FirstPiece code
first_piece [] = record { rest = []; pieces = refl; same_words = refl }
first_piece (byte ∷ code) = go (is_white byte) (is_mark byte) refl refl (first_piece code)
  where
    go : (white mark : Bool) → is_white byte ≡ white → is_mark byte ≡ mark → FirstPiece code → FirstPiece (byte ∷ code)
    go true mark w m next =
        let none : is_mark byte ≡ false = is_mark-white byte w in
        record { rest = slice_split is_white (flat_map spaced code); pieces = rw (w, none, w) refl; same_words = rw (w, none, w) refl }
    go false true w m next =
        record { rest = (byte ∷ []) ∷ slice_split is_white (flat_map spaced code); pieces = rw (w, m, w) refl; same_words = rw (w, m, m, w) refl }
    go false false w m next = record {
      rest = next.rest;
      pieces = rw (m, w, one-add, next.pieces) refl;
      same_words = rw (m, w, one-add) next.same_words;
    }

-- a word's first byte is no mark
pub token_of-word : (byte : ℕ) (text : List ℕ) → is_mark byte ≡ false → token_of (byte ∷ text) ≡ word (byte ∷ text)
token_of-word byte text none = grind (arith, nat_tests)

-- a longest run of word bytes comes first: it is a word
tokens_of-word : (byte : ℕ) (code : List ℕ) → is_white byte ≡ false → is_mark byte ≡ false →
    let length_of_word = prefix_len is_word_byte (byte ∷ code) in
    tokens_of (byte ∷ code) ≡ word (take length_of_word (byte ∷ code)) ∷ tokens_of (drop length_of_word (byte ∷ code))
tokens_of-word byte code w m =
    let cut = first_piece code in
    rw (m, w, one-add, cut.pieces, cut.same_words)
    (ap (λ first. first ∷ tokens_of (drop (prefix_len is_word_byte code) code)) (token_of-word byte (take (prefix_len is_word_byte code) code) m))

-- the same, of bytes that begin with neither white space nor a mark
pub tokens_of-split_word : (code : List ℕ) (first : ℕ) (rest : List ℕ) → code ≡ first ∷ rest →
    (0 < length code → is_white (get_or code 0 0) ≡ false) → mark_of first ≡ None →
    tokens_of code ≡ word (take (prefix_len is_word_byte code) code) ∷ tokens_of (drop (prefix_len is_word_byte code) code)
tokens_of-split_word [] first rest e begins none = cc
tokens_of-split_word (byte ∷ code) first rest e begins none =
    let same : byte ≡ first = cc in
    tokens_of-word byte code (begins (omega arith)) (false_from_ne_true (is_mark byte) (λ m. let some = rw (← same, m) at none in cc))

-- the bytes after white space begin with none
pub is_white-past_white : (code : List ℕ) → 0 < length (drop (prefix_len is_white code) code) →
    is_white (get_or (drop (prefix_len is_white code) code) 0 0) ≡ false
is_white-past_white [] = λ some. absurd (omega arith)
is_white-past_white (byte ∷ code) = go (is_white byte) refl (is_white-past_white code)
  where
    go : (white : Bool) → is_white byte ≡ white →
        (0 < length (drop (prefix_len is_white code) code) → is_white (get_or (drop (prefix_len is_white code) code) 0 0) ≡ false) →
        0 < length (drop (prefix_len is_white (byte ∷ code)) (byte ∷ code)) → is_white (get_or (drop (prefix_len is_white (byte ∷ code)) (byte ∷ code)) 0 0) ≡ false
    go true w rest = rw (w, one-add) rest
    go false w rest = rw w (λ _. w)
