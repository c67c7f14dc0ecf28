-- The suggestion after what is known of a fault: what a name that no line defines may mean, or the only name near to the one at fault.
use Rattle.std.specs.Prelude.{ℕ, ◌&&◌, not, Bool, if◌then◌else◌, List, [], ◌∷◌, ◌++◌, drop, length, map, take, bytes_eq, codes, option_and_then, option_map, Option, None, Some}
use denote.Ref.{Bor}
use Rattle.std.specs.List.{find}
use Rattle.std.specs.Option.{option_map_or}
use Rattle.std.specs.Str.{all_ascii_digits, str_eq_ignore_ascii_case}
use Rattle.std.specs.Char.{to_ascii_uppercase}
use Rattle.mistakes.specs.declared.subject.Subject.{Subject}
use Rattle.mistakes.specs.BenchLines.{nth_name}
use Rattle.explanations.specs.AtFault.{topic_of, undefined_in}
use Rattle.mistakes.specs.Lines.{line_at}
use Rattle.explanations.specs.Missing.{missing_told}
use Rattle.mistakes.specs.Near.{near_among}
use Rattle.explanations.specs.DeckStart.{deck_start}
use Rattle.explanations.specs.Nets.{defined_told, inputs_in, nets_in}
use Rattle.texts.specs.Text.{code_of, is_empty}

-- a text or a word, if there is one
abbrev pub seen_text : Option (Bor (List ℕ)) → Option (List ℕ)
seen_text text = option_map (λ (bytes : Bor (List ℕ)). bytes.now) text

-- ---- a net

-- the net that is near to a name
abbrev pub near_net_told : List ℕ → List ℕ → List ℕ → List ℕ
near_net_told place name text = option_map_or (defined_told place text) (near_among name (nets_in text)) []

-- ---- a gate word

abbrev pub gate_words : List (List ℕ)
gate_words =
    codes "AND" ∷ codes "NAND" ∷ codes "OR" ∷ codes "NOR" ∷ codes "XOR" ∷ codes "XNOR" ∷ codes "NOT" ∷ codes "INV"
    ∷ codes "BUF" ∷ codes "BUFF" ∷ codes "DFF" ∷ []

-- the word is a gate word in any case, followed by digits
abbrev pub is_numbered : List ℕ → List ℕ → Bool
is_numbered word gate =
    str_eq_ignore_ascii_case (take (length gate) word) gate
    && (not (is_empty (drop (length gate) word)) && all_ascii_digits (drop (length gate) word))

-- the gate word for a word that other texts have for the gate
abbrev pub gate_written_out : List ℕ → Option (List ℕ)
gate_written_out word =
    if str_eq_ignore_ascii_case word (codes "INVERTER") then Some (codes "NOT")
    else if str_eq_ignore_ascii_case word (codes "BUFFER") then Some (codes "BUF")
    else near_among (map to_ascii_uppercase word) gate_words

abbrev pub between : List ℕ → List ℕ → List ℕ → List ℕ
between before gate after = before ++ gate ++ after

abbrev pub other_gate_told : Option (List ℕ) → List ℕ
other_gate_told None = []
other_gate_told (Some gate) = between (codes "did you mean ") gate (codes "?\n")

abbrev pub gate_told : List ℕ → List ℕ
gate_told word =
    option_map_or (λ gate. between (codes "the number of pins isn't part of a gate word: ") gate (codes "\n"))
    (find (is_numbered word) gate_words) (other_gate_told (gate_written_out word))

-- ---- by the fault

-- for a name that no line of a text defines: what it may mean, or else the net that is near to it
abbrev pub for_missing : List ℕ → List ℕ → List ℕ
for_missing text name =
    if is_empty (missing_told text name) then near_net_told [] name text else missing_told text name

-- for a line without its comment, in a text
abbrev pub for_undefined_in : List ℕ → List ℕ → List ℕ
for_undefined_in text code = option_map_or (for_missing text) (undefined_in code text) []

abbrev pub for_gate_in : List ℕ → List ℕ
for_gate_in code = option_map_or gate_told (nth_name 1 code) []

-- for the line with this number, if the text is known and has it
abbrev pub code_at : ℕ → List ℕ → Option (List ℕ)
code_at number text = option_map code_of (line_at number text)

abbrev pub for_undefined : ℕ → Option (List ℕ) → List ℕ
for_undefined number None = []
for_undefined number (Some text) = option_map_or (for_undefined_in text) (code_at number text) []

abbrev pub for_gate : ℕ → Option (List ℕ) → List ℕ
for_gate number text = option_map_or for_gate_in (option_and_then (code_at number) text) []

-- the name that no net has: one that no text contains, or else that of the line
abbrev pub unknown_net : Subject → ℕ → Option (List ℕ) → Option (List ℕ) → Option (List ℕ)
unknown_net subject number text (Some word) = Some word
unknown_net subject number text None = option_map (λ code. (topic_of subject code).net) (option_and_then (code_at number) text)

-- for a name that no net of the circuit has, whose text is known
abbrev pub for_net : Option (List ℕ) → Option (List ℕ) → List ℕ
for_net None name = []
for_net (Some circuit) name = option_map_or (λ name. near_net_told (codes " of the .bench text") name circuit) name []

-- for a name that no input of the circuit has, whose text is known: the input that is near to it
abbrev pub near_input_told : List ℕ → List ℕ → List ℕ
near_input_told name text =
    option_map_or (defined_told (codes " of the .bench text") text) (near_among name (inputs_in text)) []

abbrev pub for_input : Option (List ℕ) → Option (List ℕ) → List ℕ
for_input (Some circuit) (Some name) = near_input_told name circuit
for_input circuit name = []

-- for a fault of an option's input, or of a deck
abbrev pub for_other : List ℕ → Option (List ℕ) → Option (List ℕ) → Option (List ℕ) → List ℕ
for_other name text word circuit =
    if bytes_eq name (codes "NotAnInput") then for_input circuit word
    else if bytes_eq name (codes "BadDeck") then deck_start text
    else []

-- the suggestion for a fault, if any: with the line at fault and its text, the word at fault that no text contains, and the circuit's text
abbrev pub suggestion : Subject → List ℕ → ℕ → Option (List ℕ) → Option (List ℕ) → Option (List ℕ) → List ℕ
suggestion subject name number text word circuit =
    if bytes_eq name (codes "Undefined") then for_undefined number text
    else if bytes_eq name (codes "UnknownGate") then for_gate number text
    else if bytes_eq name (codes "UnknownNet") then for_net circuit (unknown_net subject number text word)
    else for_other name text word circuit
