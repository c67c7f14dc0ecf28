-- A refused text that looks like one of another kind, which nullsim doesn't read.
use Rattle.std.specs.Prelude.{ℕ, ◌+◌, ◌||◌, ◌&&◌, not, Bool, false, if◌then◌else◌, List, [], ◌∷◌, ◌++◌, length, take, codes, decimal, bytes_eq, Option, None, Some, unwrap_or}
use Rattle.std.specs.List.{find, list_all, prefix_len}
use Rattle.std.specs.Option.{is_some, option_and_then, option_map_or, option_or}
use Rattle.texts.specs.Text.{code_of, is_white, number_of}
use Rattle.explanations.specs.declared.foreign.Foreign.{Foreign}
use Rattle.explanations.specs.declared.foreign.Foreign.TheVariants.{Utf8Mark, Utf16Little, Utf16Big, Gzip, Verilog, Blif, Aiger, Edif, Dump, Comment}
use Rattle.mistakes.specs.declared.subject.Subject.{Subject}
use Rattle.mistakes.specs.declared.subject.Subject.TheVariants.{Bench}
use Rattle.mistakes.specs.Tokens.{is_mark_word}
use Rattle.mistakes.specs.BenchLines.{is_among}
use Rattle.explanations.specs.AtFault.{word_at}
use Rattle.mistakes.specs.Lines.{line_at}
use Rattle.explanations.specs.Excerpt.{shown_line}
use Rattle.mistakes.specs.Subjects.{title_of}
use Rattle.explanations.specs.OtherTexts.{form_of, other_text_line}

abbrev pub begins_with : List ℕ → List ℕ → Bool
begins_with text beginning = bytes_eq beginning (take (length beginning) text)

-- ---- by the first bytes of the text

abbrev pub by_first_bytes : List ℕ → Option Foreign
by_first_bytes text =
    if begins_with text (239 ∷ 187 ∷ 191 ∷ []) then Some Utf8Mark
    else if begins_with text (255 ∷ 254 ∷ []) then Some Utf16Little
    else if begins_with text (254 ∷ 255 ∷ []) then Some Utf16Big
    else if begins_with text (31 ∷ 139 ∷ []) then Some Gzip
    else None

-- ---- by the first words of the line at fault

-- a second word that begins with none, or with one
abbrev pub has_word_next : List ℕ → Bool
has_word_next code = option_map_or (λ word. not (is_mark_word word)) (word_at 1 code) false

abbrev pub has_mark_next : List ℕ → Bool
has_mark_next code = option_map_or is_mark_word (word_at 1 code) false

-- the other words that begin a line of Verilog
abbrev pub verilog_words : List (List ℕ)
verilog_words =
    codes "endmodule" ∷ codes "assign" ∷ codes "wire" ∷ codes "reg" ∷ codes "always" ∷ codes "initial" ∷ []

-- such words are names of a delay text
abbrev pub is_verilog : Subject → List ℕ → List ℕ → Bool
is_verilog Bench first code =
    (bytes_eq first (codes "module") && has_word_next code)
    || ((is_among verilog_words first && not (has_mark_next code)) || begins_with first (codes "`"))
is_verilog other first code = bytes_eq first (codes "module") && has_word_next code

abbrev pub blif_words : List (List ℕ)
blif_words =
    codes ".model" ∷ codes ".inputs" ∷ codes ".outputs" ∷ codes ".names" ∷ codes ".latch" ∷ codes ".gate" ∷ codes ".subckt"
    ∷ codes ".end" ∷ []

abbrev pub is_blif : List ℕ → List ℕ → Bool
is_blif first code = is_among blif_words first && not (has_mark_next code)

abbrev pub is_number_at : List ℕ → ℕ → Bool
is_number_at code place = option_map_or (λ word. is_some (number_of word)) (word_at place code) false

-- five numbers after the first word
abbrev pub has_five_numbers : List ℕ → Bool
has_five_numbers code = list_all (is_number_at code) (1 ∷ 2 ∷ 3 ∷ 4 ∷ 5 ∷ [])

abbrev pub is_aiger : List ℕ → List ℕ → Bool
is_aiger first code = is_among (codes "aag" ∷ codes "aig" ∷ []) first && has_five_numbers code

abbrev pub is_edif : List ℕ → List ℕ → Bool
is_edif first code =
    bytes_eq first (codes "(edif") || (bytes_eq first (codes "(") && option_map_or (bytes_eq (codes "edif")) (word_at 1 code) false)

abbrev pub dump_words : List (List ℕ)
dump_words = codes "$date" ∷ codes "$version" ∷ codes "$comment" ∷ codes "$timescale" ∷ codes "$scope" ∷ codes "$var" ∷ []

-- with what comments of other languages begin
abbrev pub comment_marks : List (List ℕ)
comment_marks = codes "//" ∷ codes "/*" ∷ codes "--" ∷ codes ";" ∷ []

abbrev pub comment_mark : List ℕ → Option (List ℕ)
comment_mark first = find (begins_with first) comment_marks

abbrev pub by_first_word : Subject → List ℕ → List ℕ → Option Foreign
by_first_word subject code first =
    if is_verilog subject first code then Some Verilog
    else if is_blif first code then Some Blif
    else if is_aiger first code then Some Aiger
    else if is_edif first code then Some Edif
    else if is_among dump_words first then Some Dump
    else if is_some (comment_mark first) then Some Comment
    else None

abbrev pub by_line : Subject → List ℕ → Option Foreign
by_line subject code = option_and_then (by_first_word subject code) (word_at 0 code)

-- what a text and a line of it, without its comment, look like
abbrev pub foreign_kind : Subject → List ℕ → List ℕ → Option Foreign
foreign_kind subject text code = option_or (by_first_bytes text) (by_line subject code)

-- ---- the message about it

-- where the first word of the line begins
abbrev pub first_column : List ℕ → ℕ
first_column code = prefix_len is_white code + 1

-- what its first word begins
abbrev pub begun_by : Foreign → List ℕ
begun_by Verilog = codes "a line of Verilog"
begun_by Blif = codes "a BLIF file"
begun_by Aiger = codes "an AIGER file"
begun_by Edif = codes "an EDIF file"
begun_by other = codes "a dump, which nullsim writes and doesn't read"

abbrev pub column_text : List ℕ → List ℕ
column_text code = codes "column " ++ decimal (first_column code) ++ codes ": '"

abbrev pub begun_text : Foreign → Subject → List ℕ
begun_text kind subject =
    codes "' begins " ++ begun_by kind ++ codes "; a " ++ title_of subject ++ codes " is needed\n" ++ form_of subject

abbrev pub language_told : Foreign → Subject → List ℕ → List ℕ → List ℕ
language_told kind subject first code = column_text code ++ shown_line first ++ begun_text kind subject

abbrev pub comment_told : List ℕ → List ℕ → List ℕ
comment_told mark code = column_text code ++ mark ++ codes "' doesn't begin a comment; # does\n"

-- if there is such a mark
abbrev pub comment_line : Option (List ℕ) → List ℕ → List ℕ
comment_line None code = []
comment_line (Some mark) code = comment_told mark code

abbrev pub foreign_told : Foreign → Subject → List ℕ → List ℕ → List ℕ
foreign_told Utf8Mark subject first code =
    codes "column 1: found a byte order mark (EF BB BF)\nsave the file as UTF-8 without a byte order mark\n"
foreign_told Utf16Little subject first code =
    codes "column 1: found FF FE: the text is UTF-16\nsave the file as ASCII or as UTF-8 without a byte order mark\n"
foreign_told Utf16Big subject first code =
    codes "column 1: found FE FF: the text is UTF-16\nsave the file as ASCII or as UTF-8 without a byte order mark\n"
foreign_told Gzip subject first code = codes "column 1: found 1F 8B: the file is compressed by gzip; unpack it first\n"
foreign_told Comment subject first code = comment_line (comment_mark first) code
foreign_told kind subject first code = language_told kind subject first code

-- of a text in whose line a fault was found
abbrev pub foreign_line : Subject → List ℕ → Option (List ℕ) → List ℕ → List ℕ
foreign_line subject text circuit code =
    option_map_or (λ kind. foreign_told kind subject (unwrap_or (word_at 0 code) []) code)
    (foreign_kind subject text code) (other_text_line subject circuit code)

-- the faults of a text that may be of another kind
abbrev pub may_be_foreign : List (List ℕ)
may_be_foreign = codes "BadByte" ∷ codes "BadLine" ∷ codes "BadDeck" ∷ []

-- of the line with a number, if the fault is one of these, and the text is known and has the line
unfoldable pub foreign_text : Subject → List ℕ → ℕ → Option (List ℕ) → Option (List ℕ) → List ℕ
foreign_text subject name number None circuit = []
foreign_text subject name number (Some text) circuit =
    if is_among may_be_foreign name then option_map_or (λ line. foreign_line subject text circuit (code_of line)) (line_at number text) []
    else []
