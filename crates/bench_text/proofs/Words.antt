-- The words of a line are made of bytes that a name may contain.
use Rattle.std.proofs.Common.{◌≡◌, ℕ, ◌<◌, ◌==◌, ◌||◌, not, Bool, true, false, IsTrue, List, [], ◌∷◌, map, length, All, refl, ap, arith, one-add, ◌⊎◌, inl, inr}
use Rattle.std.specs.List.{slice_split, filter, flat_map, list_all, AllByRecursion}
use Rattle.std.specs.Char.{is_ascii_graphic}
use Rattle.std.proofs.lemmas.Bool.{and_parts}
use Rattle.std.proofs.lemmas.Bool.Decides.{nat_tests}
use Rattle.std.proofs.lemmas.List.Elements.{All-nil, All-cons, All-head}
use Rattle.texts.specs.Text.{is_white, is_plain, is_empty, code_of}
use Rattle.bench_text.specs.Line.{Token, word, is_mark, spaced, token_of, tokens_of}
use Rattle.netlist.specs.Name.{is_name_byte}
use Rattle.bench_text.proofs.Scan.{is_mark-white, token_of-word}

-- some bytes, each of which a name may contain
pub record IsWord (text : List ℕ) : Type 0 where
  pub some : 0 < length text
  pub bytes : All (λ byte. IsTrue (is_name_byte byte)) text

abbrev pub IsToken : Token → Type 0
IsToken (word text) = IsWord text
IsToken _ = Unit {0}

-- a piece between white space is nothing, or makes such a token
abbrev IsPiece : List ℕ → Type 0
IsPiece [] = Unit {0}
IsPiece (byte ∷ text) = IsToken (token_of (byte ∷ text))

-- a byte of a name is no mark
pub is_mark-name_byte : (byte : ℕ) → is_name_byte byte ≡ true → is_mark byte ≡ false
is_mark-name_byte byte h = grind (arith, nat_tests)

-- a plain byte that is neither white, a mark nor '#' is a byte of a name
is_name_byte-from : (byte : ℕ) → (is_white byte || is_ascii_graphic byte) ≡ true → not (byte == 35) ≡ true →
    is_white byte ≡ false → is_mark byte ≡ false → is_name_byte byte ≡ true
is_name_byte-from byte plain no_comment white mark = grind (arith, nat_tests)

-- a mark by itself is no word
IsPiece-mark : (byte : ℕ) → is_mark byte ≡ true → IsPiece (byte ∷ [])
IsPiece-mark byte mark = go (which byte mark)
  where
    which : (byte : ℕ) → is_mark byte ≡ true → (byte ≡ 40) ⊎ ((byte ≡ 41) ⊎ ((byte ≡ 44) ⊎ (byte ≡ 61)))
    which byte mark = grind (arith, nat_tests)

    go : (byte ≡ 40) ⊎ ((byte ≡ 41) ⊎ ((byte ≡ 44) ⊎ (byte ≡ 61))) → IsPiece (byte ∷ [])
    go (inl e) = rw e tt
    go (inr (inl e)) = rw e tt
    go (inr (inr (inl e))) = rw e tt
    go (inr (inr (inr e))) = rw e tt

IsPiece-name : (text : List ℕ) → All (λ byte. IsTrue (is_name_byte byte)) text → IsPiece text
IsPiece-name [] bytes = tt
IsPiece-name (byte ∷ text) bytes =
    rw (token_of-word byte text (is_mark-name_byte byte (All-head (λ byte. IsTrue (is_name_byte byte)) byte text bytes)))
    (record { some = omega arith; bytes = bytes })

-- the pieces of a line; what stands before the line joins the first
record ArePieces (pieces : List (List ℕ)) : Type 0 where
  first : List ℕ
  rest : List (List ℕ)
  are : pieces ≡ first ∷ rest
  bytes : All (λ byte. IsTrue (is_name_byte byte)) first
  others : AllByRecursion IsPiece rest

ArePieces-split : (code : List ℕ) → is_plain code ≡ true → list_all (λ byte. not (byte == 35)) code ≡ true →
    ArePieces (slice_split is_white (flat_map spaced code))
ArePieces-split [] plain no_comment =
    record { first = []; rest = []; are = refl; bytes = All-nil (λ byte. IsTrue (is_name_byte byte)); others = tt }
ArePieces-split (byte ∷ code) plain no_comment =
    let p = and_parts (is_white byte || is_ascii_graphic byte) (is_plain code) plain in
    let n = and_parts (not (byte == 35)) (list_all (λ byte. not (byte == 35)) code) no_comment in
    go (is_white byte) (is_mark byte) refl refl (is_name_byte-from byte p.0 n.0) (ArePieces-split code p.1 n.1)
  where
    go : (white mark : Bool) → is_white byte ≡ white → is_mark byte ≡ mark →
        (is_white byte ≡ false → is_mark byte ≡ false → is_name_byte byte ≡ true) →
        ArePieces (slice_split is_white (flat_map spaced code)) → ArePieces (slice_split is_white (flat_map spaced (byte ∷ code)))
    go true mark w m named next = record {
      first = [];
      rest = next.first ∷ next.rest;
      are = rw (is_mark-white byte w, w) (ap (λ pieces. [] ∷ pieces) next.are);
      bytes = All-nil (λ byte. IsTrue (is_name_byte byte));
      others = (IsPiece-name next.first next.bytes, next.others);
    }
    go false true w m named next = record {
      first = [];
      rest = (byte ∷ []) ∷ next.first ∷ next.rest;
      are = rw (m, w) (ap (λ pieces. [] ∷ (byte ∷ []) ∷ pieces) next.are);
      bytes = All-nil (λ byte. IsTrue (is_name_byte byte));
      others = (IsPiece-mark byte m, (IsPiece-name next.first next.bytes, next.others));
    }
    go false false w m named next = record {
      first = byte ∷ next.first;
      rest = next.rest;
      are = rw (m, w, next.are) refl;
      bytes = All-cons (λ byte. IsTrue (is_name_byte byte)) byte next.first (named w m) next.bytes;
      others = next.others;
    }

-- no byte before the first '#' is one
pub no_comment : (line : List ℕ) → list_all (λ byte. not (byte == 35)) (code_of line) ≡ true
no_comment [] = refl
no_comment (byte ∷ line) = go (byte == 35) refl (no_comment line)
  where
    go : (comment : Bool) → (byte == 35) ≡ comment → list_all (λ byte. not (byte == 35)) (code_of line) ≡ true →
        list_all (λ byte. not (byte == 35)) (code_of (byte ∷ line)) ≡ true
    go true c rest = rw c refl
    go false c rest = rw (c, one-add, c) rest

tokens_of_pieces : (pieces : List (List ℕ)) → AllByRecursion IsPiece pieces →
    AllByRecursion IsToken (map token_of (filter (λ piece. not (is_empty piece)) pieces))
tokens_of_pieces [] h = tt
tokens_of_pieces ([] ∷ pieces) h = tokens_of_pieces pieces h.1
tokens_of_pieces ((byte ∷ text) ∷ pieces) h = (h.0, tokens_of_pieces pieces h.1)

-- the words of a line without its comment are made of bytes that a name may contain
pub tokens_proper : (code : List ℕ) → is_plain code ≡ true → list_all (λ byte. not (byte == 35)) code ≡ true → AllByRecursion IsToken (tokens_of code)
tokens_proper code plain no_comment =
    let cut = ArePieces-split code plain no_comment in
    rw cut.are (tokens_of_pieces (cut.first ∷ cut.rest) (IsPiece-name cut.first cut.bytes, cut.others))
