-- The tokens and statements of the code, which borrow the bytes of a line, as those of the definitions.
use Rattle.std.specs.Prelude.{ℕ, ◌&&◌, not, if◌then◌else◌, Bool, [], ◌∷◌, Option, Some, None}
use Rattle.texts.specs.Text.{is_white}
use Rattle.netlist.specs.Names.{seen_names}
use Rattle.bench_text.specs.Line as line
use Rattle.bench_text.specs.Line.{is_mark, token_of, left, right, comma, equals, word, port, assignment, defines, names_output}
use Rattle.bench_text.specs.declared.token.Token.{Token}
use Rattle.bench_text.specs.declared.token.Token.TheVariants.{Word, Left, Right, Comma, Equals}
use Rattle.bench_text.specs.declared.statement.Form.{Form}
use Rattle.bench_text.specs.declared.statement.Form.TheVariants.{Port, Assignment}
use Rattle.bench_text.specs.declared.statement.Statement.{Statement}
use Rattle.bench_text.specs.declared.statement.Statement.TheVariants.{Defines, NamesOutput}

abbrev pub seen_token : Token → line.Token
seen_token (Word text) = word text.now
seen_token Left = left
seen_token Right = right
seen_token Comma = comma
seen_token Equals = equals

abbrev pub seen_form : Form → line.Form
seen_form (Port keyword name) = port keyword.now name.now
seen_form (Assignment name keyword pins) = assignment name.now keyword.now (seen_names pins.items)

abbrev pub seen_statement : Statement → line.Statement
seen_statement (Defines name part pins) = defines name.now part (seen_names pins.items)
seen_statement (NamesOutput name) = names_output name.now

-- a byte that a word may contain
abbrev pub is_word_byte : ℕ → Bool
is_word_byte byte = not (is_white byte) && not (is_mark byte)

-- the mark that a byte is
abbrev pub mark_of : ℕ → Option line.Token
mark_of byte = if is_mark byte then Some (token_of (byte ∷ [])) else None
