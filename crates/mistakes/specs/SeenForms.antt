-- The slots and tokens of the code, which borrow bytes, as those of the definitions.
use Rattle.std.specs.Prelude.{ℕ, List, map}
use denote.Ref.{Bor}
use Rattle.mistakes.specs.Forms as forms
use Rattle.mistakes.specs.Forms.{fixed, keyword, numeral, any_word, net_name, gate_word, more_names, line_end}
use Rattle.mistakes.specs.Tokens as tokens
use Rattle.mistakes.specs.declared.places.slot.Slot.{Slot}
use Rattle.mistakes.specs.declared.places.slot.Slot.TheVariants.{Fixed, Keyword, Number, Word, Name, Gate, More, End}
use Rattle.mistakes.specs.declared.places.line.Line.{Line}
use Rattle.mistakes.specs.declared.places.tokens.Token.{Token}

abbrev pub seen_slot : Slot → forms.Slot
seen_slot (Fixed text) = fixed text.now
seen_slot (Keyword text) = keyword text.now
seen_slot (Number called) = numeral called.now
seen_slot (Word called) = any_word called.now
seen_slot Name = net_name
seen_slot Gate = gate_word
seen_slot More = more_names
seen_slot End = line_end

abbrev pub seen_row : List Slot → List forms.Slot
seen_row row = map seen_slot row

abbrev pub seen_rows : List (Bor (List Slot)) → List (List forms.Slot)
seen_rows rows = map (λ row. seen_row row.now) rows

abbrev pub seen_token : Token → tokens.Token
seen_token token = record { column = token.column; bytes = token.bytes.now }

-- the tokens of a line, and their bytes
abbrev pub tokens_in : Line → List tokens.Token
tokens_in line = tokens.tokens_of line.subject line.code.now

abbrev pub words_in : Line → List (List ℕ)
words_in line = tokens.bytes_of (tokens_in line)
