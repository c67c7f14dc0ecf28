-- What a line of a .bench text says.
use Rattle.std.specs.Prelude.{ℕ, ◌==◌, nat_lt, Bool, IsTrue, All, if◌then◌else◌, List, [], ◌∷◌, length, map, flat_map, find, option_map, Option, None, Some, Result, Ok, Err, codes, bytes_eq, slice_index}
use Rattle.std.specs.List.{list_any}
use Rattle.std.specs.Str.{str_eq_ignore_ascii_case}
use Rattle.logic3.specs.declared.gates.GateKind.TheVariants.{And, Nand, Or, Nor, Xor, Xnor, Not, Buf}
use Rattle.netlist.specs.Name.{IsName}
use Rattle.netlist.specs.Part.{takes_pins}
use Rattle.netlist.specs.declared.part.Part.{Part}
use Rattle.netlist.specs.declared.part.Part.TheVariants.{Input, Gate, Flop}
use Rattle.bench_text.specs.declared.fault.BenchFault.{BenchFault}
use Rattle.bench_text.specs.declared.fault.BenchFault.TheVariants.{BadByte, BadLine, NameTooLong, UnknownGate, BadArity}
use Rattle.texts.specs.Text.{is_plain, words_of}

-- a token: a word or one of the four marks
pub data Token : Type 0 where
  left right comma equals : Token
  word : List ℕ → Token

-- the four marks
abbrev pub is_mark : ℕ → Bool
is_mark byte = list_any (λ mark. mark == byte) (codes "(),=")

-- a mark, made a word of its own by a space on each side
abbrev pub spaced : ℕ → List ℕ
spaced byte = if is_mark byte then 32 ∷ byte ∷ 32 ∷ [] else byte ∷ []

abbrev pub token_of : List ℕ → Token
token_of text =
    if bytes_eq text (codes "(") then left
    else if bytes_eq text (codes ")") then right
    else if bytes_eq text (codes ",") then comma
    else if bytes_eq text (codes "=") then equals
    else word text

-- the tokens of a line without its comment
abbrev pub tokens_of : List ℕ → List Token
tokens_of code = map token_of (words_of (flat_map spaced code))

-- the forms of a line: `K ( W )`, and `W = K ( list )`
pub data Form : Type 0 where
  port : List ℕ → List ℕ → Form
  assignment : List ℕ → List ℕ → List (List ℕ) → Form

-- the rest of a list of names: each after a comma, up to the closing mark
abbrev pub more_names : List Token → Option (List (List ℕ))
more_names (right ∷ []) = Some []
more_names (comma ∷ word name ∷ tokens) = option_map (λ names. name ∷ names) (more_names tokens)
more_names _ = None

-- a list of names up to the closing mark: empty, or with a comma between each two
abbrev pub names_of : List Token → Option (List (List ℕ))
names_of (right ∷ []) = Some []
names_of (word name ∷ tokens) = option_map (λ names. name ∷ names) (more_names tokens)
names_of _ = None

abbrev pub form_of : List Token → Option Form
form_of (word keyword ∷ left ∷ word name ∷ right ∷ []) = Some (port keyword name)
form_of (word name ∷ equals ∷ word keyword ∷ left ∷ tokens) = option_map (assignment name keyword) (names_of tokens)
form_of _ = None

-- the words for a gate or a flip-flop
abbrev pub keywords : List (List ℕ × Part)
keywords =
    (codes "AND", Gate And) ∷ (codes "NAND", Gate Nand) ∷ (codes "OR", Gate Or) ∷ (codes "NOR", Gate Nor)
    ∷ (codes "XOR", Gate Xor) ∷ (codes "XNOR", Gate Xnor) ∷ (codes "NOT", Gate Not) ∷ (codes "BUF", Gate Buf)
    ∷ (codes "DFF", Flop) ∷ (codes "INV", Gate Not) ∷ (codes "BUFF", Gate Buf) ∷ []

-- the part next to the first word of a table that equals a text, in any case of its letters
abbrev pub part_in : List (List ℕ × Part) → List ℕ → Option Part
part_in table text = option_map (λ entry. entry.1) (find (λ entry. str_eq_ignore_ascii_case entry.0 text) table)

-- the gate or flip-flop that a word means
abbrev pub part_of : List ℕ → Option Part
part_of text = part_in keywords text

-- a name that begins with '$'
abbrev pub is_dollar_name : List ℕ → Bool
is_dollar_name name = slice_index name 0 == 36

abbrev pub is_long_name : List ℕ → Bool
is_long_name name = nat_lt 255 (length name)

-- what a line says: it defines a net, with its name, part and the names of its pins, or it names an output
pub data Statement : Type 0 where
  defines : List ℕ → Part → List (List ℕ) → Statement
  names_output : List ℕ → Statement

-- the result after a list of names, unless one of the names is refused
abbrev pub with_names : {A : Type 0} → ℕ → List (List ℕ) → Result A BenchFault → Result A BenchFault
with_names line names rest =
    if list_any is_dollar_name names then Err (BadLine line)
    else if list_any is_long_name names then Err (NameTooLong line)
    else rest

-- the definition of a gate or a flip-flop with its pins, or its fault
abbrev pub definition_of : ℕ → List ℕ → List (List ℕ) → Option Part → Result Statement BenchFault
definition_of line name pins None = Err (UnknownGate line)
definition_of line name pins (Some part) =
    if takes_pins part (length pins) then Ok (defines name part pins) else Err (BadArity line)

abbrev pub statement_of_form : ℕ → Option Form → Result Statement BenchFault
statement_of_form line None = Err (BadLine line)
statement_of_form line (Some (port keyword name)) =
    if str_eq_ignore_ascii_case (codes "INPUT") keyword then with_names line (name ∷ []) (Ok (defines name Input []))
    else if str_eq_ignore_ascii_case (codes "OUTPUT") keyword then with_names line (name ∷ []) (Ok (names_output name))
    else Err (BadLine line)
statement_of_form line (Some (assignment name keyword pins)) =
    with_names line (name ∷ pins) (definition_of line name pins (part_of keyword))

-- what the line with this number says, without its comment, or its first fault
abbrev pub statement_of : ℕ → List ℕ → Result Statement BenchFault
statement_of line code =
    if is_plain code then statement_of_form line (form_of (tokens_of code)) else Err (BadByte line)

-- the names are proper names, and the part may have this number of pins
abbrev pub IsStatement : Statement → Type 0
IsStatement (defines name part pins) = IsName name × All IsName pins × IsTrue (takes_pins part (length pins))
IsStatement (names_output name) = IsName name
