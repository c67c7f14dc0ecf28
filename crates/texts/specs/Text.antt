-- Texts, lines, words and numbers.
use Rattle.std.specs.Prelude.{ℕ, ◌==◌, ◌||◌, ◌&&◌, not, nat_lt, Bool, if◌then◌else◌, List, [], ◌∷◌, length, map, filter, Option, None, Some, Result, Ok, Err, true, false}
use Rattle.std.specs.List.{slice_split, before_first, list_all, enumerate_from}
use Rattle.std.specs.Char.{is_ascii_graphic}
use Rattle.std.specs.Str.{all_ascii_digits}
use Rattle.std.specs.Str.Parse.{digits_value}

-- the ? of the logic: the second step, if the first gave a value
infixl 10 ◌>>=◌
abbrev pub ◌>>=◌ : {A B E : Type 0} → Result A E → (A → Result B E) → Result B E
Ok x >>= f = f x
Err e >>= f = Err e

-- the largest number of bytes in a text
abbrev pub longest_text : ℕ
longest_text = 16_777_216

-- what a text means, unless it is too long to be read
abbrev pub unless_too_long : {A E : Type 0} → E → (List ℕ → Result A E) → List ℕ → Result A E
unless_too_long fault meaning text = if nat_lt longest_text (length text) then Err fault else meaning text

-- white space: space, tab and carriage return
abbrev pub is_white : ℕ → Bool
is_white byte = byte == 32 || byte == 9 || byte == 13

-- each byte is white space or 0x21 to 0x7E
abbrev pub is_plain : List ℕ → Bool
is_plain bytes = list_all (λ byte. is_white byte || is_ascii_graphic byte) bytes

-- the lines of a text; after a last newline there is an empty one
abbrev pub lines_of : List ℕ → List (List ℕ)
lines_of text = slice_split (λ byte. byte == 10) text

-- a line without its comment, which begins at the first '#'
abbrev pub code_of : List ℕ → List ℕ
code_of line = before_first (λ byte. byte == 35) line

abbrev pub is_empty : {A : Type 0} → List A → Bool
is_empty [] = true
is_empty (x ∷ xs) = false

-- the longest runs of bytes that are not white space
abbrev pub words_of : List ℕ → List (List ℕ)
words_of line = filter (λ word. not (is_empty word)) (slice_split is_white line)

-- the lines that have words, without comments, numbered from the given number
abbrev pub code_lines_from : ℕ → List ℕ → List (ℕ × List ℕ)
code_lines_from number text =
    filter (λ (line_number, code). not (is_empty (words_of code))) (enumerate_from number (map code_of (lines_of text)))

-- the same, by number from 1
abbrev pub code_lines : List ℕ → List (ℕ × List ℕ)
code_lines text = code_lines_from 1 text

-- the value of one or more decimal digits
abbrev pub number_of : List ℕ → Option ℕ
number_of word =
    if not (is_empty word) && all_ascii_digits word then Some (digits_value 10 word) else None
