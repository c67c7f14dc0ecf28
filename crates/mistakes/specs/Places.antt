-- Where a line stops having a form, what was found there and what the forms take there.
use Rattle.std.specs.Prelude.{ℕ, ◌+◌, ◌-◌, ◌/◌, ◌%◌, ◌==◌, ◌||◌, max, nat_lt, Bool, true, false, if◌then◌else◌, List, [], ◌∷◌, ◌++◌, take, drop, codes, decimal, bytes_eq, length, slice_get, slice_index, Option, None, Some}
use Rattle.std.specs.Char.{is_ascii_graphic}
use Rattle.std.specs.List.{list_any, prefix_len}
use Rattle.std.specs.Option.{option_map_or}
use Rattle.mistakes.specs.declared.subject.Subject.{Subject}
use Rattle.mistakes.specs.declared.subject.Subject.TheVariants.{Deck}
use Rattle.mistakes.specs.BenchLines.{is_among}
use Rattle.mistakes.specs.Lines.{line_at}
use Rattle.mistakes.specs.Forms.{Slot, fixed, keyword, numeral, any_word, net_name, gate_word, more_names, line_end, forms_of, next}
use Rattle.mistakes.specs.Tokens.{Token, bytes_of, is_mark, tokens_of}
use Rattle.texts.specs.Text.{code_of, is_empty, is_plain, is_white}

-- ---- how far a line has a form

-- the number of the tokens at the front of a line that a row takes
abbrev pub taken : List Slot → List (List ℕ) → ℕ
taken row [] = 0
taken row (token ∷ tokens) = option_map_or (λ after. taken after tokens + 1) (next row token) 0

-- what is left of the row after them
abbrev pub left : List Slot → List (List ℕ) → List Slot
left row [] = row
left row (token ∷ tokens) = option_map_or (λ after. left after tokens) (next row token) row

-- the place: the largest number of tokens at the front that some form takes
abbrev pub place_of : List (List Slot) → List (List ℕ) → ℕ
place_of [] tokens = 0
place_of (row ∷ rows) tokens = max (taken row tokens) (place_of rows tokens)

-- ---- what the forms take there

-- what a row takes first
abbrev pub heads : List Slot → List Slot
heads [] = []
heads (more_names ∷ row) = fixed (codes ",") ∷ fixed (codes ")") ∷ []
heads (slot ∷ row) = slot ∷ []

-- whether a slot is printed in quotes, and its text
abbrev pub is_quoted : Slot → Bool
is_quoted (fixed text) = true
is_quoted (keyword text) = true
is_quoted other = false

abbrev pub text_of : Slot → List ℕ
text_of (fixed text) = text
text_of (keyword text) = text
text_of (numeral called) = called
text_of (any_word called) = called
text_of net_name = codes "a name"
text_of gate_word = codes "a gate word"
text_of more_names = []
text_of line_end = codes "the end of the line"

-- both are printed alike
abbrev pub is_same_slot : Slot → Slot → Bool
is_same_slot one other = bytes_eq (text_of one) (text_of other)

-- slots, and a further one unless it is among them
abbrev pub with_slot : List Slot → Slot → List Slot
with_slot slots slot = if list_any (is_same_slot slot) slots then slots else slots ++ slot ∷ []

abbrev pub with_slots : List Slot → List Slot → List Slot
with_slots slots [] = slots
with_slots slots (slot ∷ others) = with_slots (with_slot slots slot) others

-- those slots, and what the rows that are left at a place take there, each once
module _ (place : ℕ) (tokens : List (List ℕ)) where
  abbrev pub with_heads : List Slot → List Slot → List Slot
  with_heads slots row = if taken row tokens == place then with_slots slots (heads (left row tokens)) else slots

  abbrev pub with_rows : List Slot → List (List Slot) → List Slot
  with_rows slots [] = slots
  with_rows slots (row ∷ rows) = with_rows (with_heads slots row) rows

abbrev pub expected : List (List Slot) → List (List ℕ) → List Slot
expected forms tokens = with_rows (place_of forms tokens) tokens [] forms

-- ---- the text about it

-- a word as it is printed: its first forty bytes, and a mark if there are more
abbrev pub cut_word : List ℕ → List ℕ
cut_word word = take 40 word ++ (if nat_lt 40 (length word) then codes " .." else [])

unfoldable pub quoted : List ℕ → List ℕ
quoted word = codes "'" ++ cut_word word ++ codes "'"

unfoldable pub slot_told : Slot → List ℕ
slot_told slot = if is_quoted slot then quoted (text_of slot) else text_of slot

-- what is between two slots, of which the second has this number of others after it
abbrev pub separator : ℕ → List ℕ
separator left = if left == 0 then [] else if left == 1 then codes " or " else codes ", "

unfoldable pub listed : List Slot → List ℕ
listed [] = []
listed (slot ∷ slots) = slot_told slot ++ separator (length slots) ++ listed slots

-- the bytes from an offset to another one
abbrev pub part_of : ℕ → ℕ → List ℕ → List ℕ
part_of from to bytes = take (to - from) (drop from bytes)

-- the offsets at which a token begins and ends
abbrev pub begin_of : Option Token → ℕ
begin_of token = option_map_or (λ (token : Token). token.column - 1) token 0

abbrev pub end_of : Option Token → ℕ
end_of token = option_map_or (λ (token : Token). token.column - 1 + length token.bytes) token 0

abbrev pub is_mark_token : Option Token → Bool
is_mark_token token = option_map_or (λ (token : Token). is_mark (slice_index token.bytes 0)) token false

-- the first of the last three tokens before a place, or the second of them if the first is a mark
unfoldable pub shown_from : List Token → ℕ → ℕ
shown_from tokens place =
    if nat_lt place 3 then 0
    else if is_mark_token (slice_get tokens (place - 3)) then place - 2
    else place - 3

-- those tokens, as they are in the line
unfoldable pub tokens_before : List ℕ → List Token → ℕ → List ℕ
tokens_before code tokens place =
    part_of (begin_of (slice_get tokens (shown_from tokens place))) (end_of (slice_get tokens (place - 1))) code

unfoldable pub after_told : List ℕ → List Token → ℕ → List ℕ
after_told code tokens place =
    if place == 0 then [] else codes ", after " ++ quoted (tokens_before code tokens place)

unfoldable pub column_told : ℕ → List ℕ
column_told column = codes "column " ++ decimal column

-- where the place is: at a token, at the comment after the line, or at its end
unfoldable pub where_told : Bool → List ℕ → Option Token → List ℕ
where_told commented code (Some token) = column_told token.column
where_told commented code None = if commented then column_told (length code + 1) else codes "at the end of the line"

abbrev pub found_token : List ℕ → List ℕ
found_token bytes = codes "found " ++ quoted bytes ++ codes ", "

-- what was found there
unfoldable pub found_told : Bool → Option Token → List ℕ
found_told commented (Some token) = found_token token.bytes
found_told commented None = if commented then codes "found a comment, which begins at #; " else []

abbrev pub is_end : Slot → Bool
is_end line_end = true
is_end other = false

-- the line has a form: it ends where a form may end
abbrev pub has_form : Option Token → List Slot → Bool
has_form (Some token) slots = false
has_form None slots = list_any is_end slots

unfoldable pub place_told : Bool → List ℕ → List Token → ℕ → List Slot → List ℕ
place_told commented code tokens place slots =
    where_told commented code (slice_get tokens place) ++ after_told code tokens place ++ codes ": "
    ++ found_told commented (slice_get tokens place) ++ codes "expected " ++ listed slots ++ codes "\n"

-- a byte that a line may have
abbrev pub is_plain_byte : ℕ → Bool
is_plain_byte byte = is_white byte || is_ascii_graphic byte

abbrev pub hexadecimal_digit : ℕ → ℕ
hexadecimal_digit digit = if nat_lt digit 10 then digit + 48 else digit + 55

unfoldable pub hexadecimal : ℕ → List ℕ
hexadecimal byte = hexadecimal_digit (byte / 16) ∷ hexadecimal_digit (byte % 16) ∷ []

-- of a line with this byte, which it can't have, at an offset
unfoldable pub byte_found : ℕ → ℕ → List ℕ
byte_found column byte = column_told column ++ codes ": found the byte " ++ hexadecimal byte

unfoldable pub byte_told : ℕ → ℕ → List ℕ
byte_told at byte = byte_found (at + 1) byte ++ codes ", which is neither white space nor printable ASCII\n"

abbrev pub first_byte_told : List ℕ → List ℕ
first_byte_told code = byte_told (prefix_len is_plain_byte code) (slice_index code (prefix_len is_plain_byte code))

-- of a line without its comment, in a text of which the line has these forms
unfoldable pub form_told : Subject → Bool → List ℕ → List (List Slot) → List ℕ
form_told subject commented code forms =
    let tokens = tokens_of subject code in
    let place = place_of forms (bytes_of tokens) in
    let slots = expected forms (bytes_of tokens) in
    if has_form (slice_get tokens place) slots then [] else place_told commented code tokens place slots

-- a deck has no comments
abbrev pub code_in : Subject → List ℕ → List ℕ
code_in Deck line = line
code_in other line = code_of line

unfoldable pub code_told : Subject → Bool → List ℕ → List (List Slot) → List ℕ
code_told subject commented code forms =
    if is_empty forms then []
    else if is_plain code then form_told subject commented code forms
    else first_byte_told code

unfoldable pub line_misplaced : Subject → ℕ → List ℕ → List ℕ → List ℕ
line_misplaced subject number text line =
    let code = code_in subject line in
    code_told subject (nat_lt (length code) (length line)) code (forms_of subject number text)

-- the faults of lines without a form
abbrev pub of_forms : List (List ℕ)
of_forms = codes "BadLine" ∷ codes "BadDeck" ∷ []

-- where the line with a number stops having a form, if the fault says so, and if the text is known and has the line
unfoldable pub misplaced : Subject → List ℕ → ℕ → Option (List ℕ) → List ℕ
misplaced subject name number None = []
misplaced subject name number (Some text) =
    if is_among of_forms name then option_map_or (line_misplaced subject number text) (line_at number text) []
    else []
