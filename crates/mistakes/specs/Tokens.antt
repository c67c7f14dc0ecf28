-- The words and marks of a line, with their columns.
use Rattle.std.specs.Prelude.{◌≡◌, ℕ, ◌+◌, ◌==◌, ◌||◌, ◌&&◌, not, Bool, true, false, if◌then◌else◌, List, [], ◌∷◌, length, map, codes, slice_index}
use Rattle.std.specs.List.{list_any}
use Rattle.mistakes.specs.declared.subject.Subject.{Subject}
use Rattle.mistakes.specs.declared.subject.Subject.TheVariants.{Bench}
use Rattle.texts.specs.Text.{is_white}

-- a word or a mark, and the column of its first byte, from 1
pub record Token : Type 0 where
  pub column : ℕ
  pub bytes : List ℕ

-- a mark of a .bench line
abbrev pub is_mark : ℕ → Bool
is_mark byte = list_any (λ mark. mark == byte) (codes "(),=")

abbrev pub is_mark_word : List ℕ → Bool
is_mark_word word = is_mark (slice_index word 0)

-- only .bench lines have marks
abbrev pub has_marks : Subject → Bool
has_marks Bench = true
has_marks other = false

-- a byte that a word may have, in a text with or without marks
abbrev pub is_word_byte : Bool → ℕ → Bool
is_word_byte marked byte = not (is_white byte) && not (marked && is_mark byte)

-- no byte of a word comes first
abbrev pub is_word_end : Bool → List ℕ → Bool
is_word_end marked [] = true
is_word_end marked (byte ∷ code) = not (is_word_byte marked byte)

-- tokens whose first one has one more byte at its front
abbrev pub lengthened : ℕ → ℕ → List Token → List Token
lengthened column byte [] = []
lengthened column byte (token ∷ tokens) = record { column = column; bytes = byte ∷ token.bytes } ∷ tokens

-- the tokens of a line that begins at a column: marks, and the longest runs of bytes of words
abbrev pub tokens_from : Bool → ℕ → List ℕ → List Token
tokens_from marked column [] = []
tokens_from marked column (byte ∷ code) =
    let tokens = tokens_from marked (column + 1) code in
    if is_white byte then tokens
    else if not (is_word_byte marked byte) || is_word_end marked code then record { column = column; bytes = byte ∷ [] } ∷ tokens
    else lengthened column byte tokens

-- the tokens of a text that begins at a column are this one, and then those of the rest
abbrev pub BeginWith : Bool → ℕ → List ℕ → Token → List ℕ → Type 0
BeginWith marked column code first rest =
    tokens_from marked column code ≡ first ∷ tokens_from marked (first.column + length first.bytes) rest

-- the tokens of a line without its comment
abbrev pub tokens_of : Subject → List ℕ → List Token
tokens_of subject code = tokens_from (has_marks subject) 1 code

abbrev pub bytes_of : List Token → List (List ℕ)
bytes_of tokens = map (λ (token : Token). token.bytes) tokens
