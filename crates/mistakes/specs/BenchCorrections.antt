-- Ways in which a .bench line is wrong, and what it may be written as.
use Rattle.std.specs.Prelude.{ℕ, List, [], ◌∷◌, ◌++◌, codes}
use Rattle.mistakes.specs.Corrections.{Correction, Piece, at_place, from_place, own}
use Rattle.mistakes.specs.Forms.{Slot, fixed, gate_word, keyword, line_end, more_names, net_name}

-- ---- parts of rows and of lines

abbrev pub opening : Slot
opening = fixed (codes "(")

abbrev pub closing : Slot
closing = fixed (codes ")")

abbrev pub comma : Slot
comma = fixed (codes ",")

abbrev pub equals : Slot
equals = fixed (codes "=")

-- GATE(NAME), and GATE(NAME, NAME), in a corrected line
abbrev pub of_one : Piece → Piece → List Piece
of_one gate pin = gate ∷ own (codes "(") ∷ pin ∷ own (codes ")") ∷ []

abbrev pub of_two : Piece → Piece → Piece → List Piece
of_two gate pin other = gate ∷ own (codes "(") ∷ pin ∷ own (codes ",") ∷ other ∷ own (codes ")") ∷ []

-- NAME = .., for the first word of the refused line
abbrev pub defining : List Piece → List Piece
defining pieces = at_place 0 ∷ own (codes "=") ∷ pieces

abbrev pub correction : List Slot → List ℕ → List (List Piece) → Correction
correction wrong said lines = record { wrong = wrong; nets = []; unused = []; said = said; lines = lines }

-- the words at these places are nets
abbrev pub for_nets : List ℕ → Correction → Correction
for_nets nets one = record { wrong = one.wrong; nets = nets; unused = one.unused; said = one.said; lines = one.lines }

-- ---- inputs and outputs

-- INPUT a
abbrev pub bare_port : Correction
bare_port = correction (gate_word ∷ net_name ∷ line_end ∷ []) (codes "write ") (of_one (at_place 0) (at_place 1) ∷ [])

-- INPUT(a, b)
abbrev pub two_ports : Correction
two_ports =
    correction (gate_word ∷ opening ∷ net_name ∷ comma ∷ net_name ∷ closing ∷ line_end ∷ []) (codes "one name a line: ")
    (of_one (at_place 0) (at_place 2) ∷ of_one (at_place 0) (at_place 4) ∷ [])

-- INPUT(a, b, c)
abbrev pub three_ports : Correction
three_ports =
    correction (gate_word ∷ opening ∷ net_name ∷ comma ∷ net_name ∷ comma ∷ net_name ∷ closing ∷ line_end ∷ [])
    (codes "one name a line: ")
    (of_one (at_place 0) (at_place 2) ∷ of_one (at_place 0) (at_place 4) ∷ of_one (at_place 0) (at_place 6) ∷ [])

-- OUTPUT y = AND(a, b)
abbrev pub defined_output : Correction
defined_output =
    correction (keyword (codes "OUTPUT") ∷ net_name ∷ equals ∷ gate_word ∷ opening ∷ net_name ∷ more_names ∷ [])
    (codes "one statement a line: ") (of_one (at_place 0) (at_place 1) ∷ (from_place 1 ∷ []) ∷ [])

-- ---- gates

-- AND(y, a, b)
abbrev pub output_first : Correction
output_first =
    correction (gate_word ∷ opening ∷ net_name ∷ comma ∷ net_name ∷ more_names ∷ []) (codes "the output of a gate comes first: ")
    ((at_place 2 ∷ own (codes "=") ∷ at_place 0 ∷ own (codes "(") ∷ from_place 4 ∷ []) ∷ [])

-- y AND(a, b)
abbrev pub without_equals : Correction
without_equals =
    correction (net_name ∷ gate_word ∷ opening ∷ net_name ∷ more_names ∷ []) (codes "write ") (defining (from_place 1 ∷ []) ∷ [])

-- y = NOT a
abbrev pub bare_pin : Correction
bare_pin =
    correction (net_name ∷ equals ∷ gate_word ∷ net_name ∷ line_end ∷ []) (codes "write ")
    (defining (of_one (at_place 2) (at_place 3)) ∷ [])

-- y = AND a, b
abbrev pub bare_pins : Correction
bare_pins =
    correction (net_name ∷ equals ∷ gate_word ∷ net_name ∷ comma ∷ net_name ∷ line_end ∷ []) (codes "write ")
    (defining (of_two (at_place 2) (at_place 3) (at_place 5)) ∷ [])

-- y = AND a b
abbrev pub bare_words : Correction
bare_words =
    correction (net_name ∷ equals ∷ gate_word ∷ net_name ∷ net_name ∷ line_end ∷ []) (codes "write ")
    (defining (of_two (at_place 2) (at_place 3) (at_place 4)) ∷ [])

abbrev pub gate_form : List ℕ
gate_form = codes "a gate is written NAME = GATE(NAME, NAME): "

-- y = a AND b
abbrev pub infix_word : Correction
infix_word =
    for_nets (2 ∷ 4 ∷ [])
    (correction (net_name ∷ equals ∷ net_name ∷ gate_word ∷ net_name ∷ line_end ∷ []) gate_form
    (defining (of_two (at_place 3) (at_place 2) (at_place 4)) ∷ []))

-- y = a
abbrev pub bare_net : Correction
bare_net =
    for_nets (2 ∷ [])
    (correction (net_name ∷ equals ∷ net_name ∷ line_end ∷ []) (codes "a BUF has the value of its pin: ")
    (defining (of_one (own (codes "BUF")) (at_place 2)) ∷ []))

-- NOT = y(a)
abbrev pub gate_first : Correction
gate_first =
    correction (gate_word ∷ equals ∷ net_name ∷ opening ∷ net_name ∷ more_names ∷ []) (codes "the net comes first: ")
    ((at_place 2 ∷ own (codes "=") ∷ at_place 0 ∷ from_place 3 ∷ []) ∷ [])

-- ---- gates in gates, with a new net between them

abbrev pub nested : List Slot → List (List Piece) → Correction
nested wrong lines =
    record { wrong = wrong; nets = []; unused = codes "n" ∷ []; said = codes "one gate a line, n being a new name: "; lines = lines }

-- n = .., the new net
abbrev pub new_net : List Piece → List Piece
new_net pieces = own (codes "n") ∷ own (codes "=") ∷ pieces

-- y = AND(NOT(a), b)
abbrev pub first_nested : Correction
first_nested =
    nested
    (net_name ∷ equals ∷ gate_word ∷ opening ∷ gate_word ∷ opening ∷ net_name ∷ closing ∷ comma ∷ net_name ∷ more_names ∷ [])
    (new_net (of_one (at_place 4) (at_place 6))
    ∷ defining (at_place 2 ∷ own (codes "(") ∷ own (codes "n") ∷ own (codes ",") ∷ from_place 9 ∷ []) ∷ [])

-- y = AND(a, NOT(b))
abbrev pub last_nested : Correction
last_nested =
    nested
    (net_name ∷ equals ∷ gate_word ∷ opening ∷ net_name ∷ comma ∷ gate_word ∷ opening ∷ net_name ∷ closing ∷ closing ∷ line_end ∷ [])
    (new_net (of_one (at_place 6) (at_place 8)) ∷ defining (of_two (at_place 2) (at_place 4) (own (codes "n"))) ∷ [])

-- y = NOT(AND(a, b))
abbrev pub only_nested : Correction
only_nested =
    nested
    (net_name ∷ equals ∷ gate_word ∷ opening ∷ gate_word ∷ opening ∷ net_name ∷ comma ∷ net_name ∷ closing ∷ closing ∷ line_end ∷ [])
    (new_net (of_two (at_place 4) (at_place 6) (at_place 8)) ∷ defining (of_one (at_place 2) (own (codes "n"))) ∷ [])

-- ---- look-up tables of two pins that a gate has

-- y = LUT 0x8 (a, b)
abbrev pub table : List ℕ → List ℕ → List ℕ → Correction
table number gate said =
    correction
    (net_name ∷ equals ∷ keyword (codes "LUT") ∷ keyword number ∷ opening ∷ net_name ∷ comma ∷ net_name ∷ closing ∷ line_end ∷ [])
    said (defining (of_two (own gate) (at_place 5) (at_place 7)) ∷ [])

unfoldable pub table_corrections : List Correction
table_corrections =
    table (codes "0x8") (codes "AND") (codes "0x8 of two pins is AND: ")
    ∷ table (codes "0x7") (codes "NAND") (codes "0x7 of two pins is NAND: ")
    ∷ table (codes "0xE") (codes "OR") (codes "0xE of two pins is OR: ")
    ∷ table (codes "0x1") (codes "NOR") (codes "0x1 of two pins is NOR: ")
    ∷ table (codes "0x6") (codes "XOR") (codes "0x6 of two pins is XOR: ")
    ∷ table (codes "0x9") (codes "XNOR") (codes "0x9 of two pins is XNOR: ") ∷ []

-- ---- all of them

unfoldable pub port_corrections : List Correction
port_corrections = bare_port ∷ two_ports ∷ three_ports ∷ defined_output ∷ []

unfoldable pub gate_corrections : List Correction
gate_corrections =
    output_first ∷ without_equals ∷ bare_pin ∷ bare_pins ∷ bare_words ∷ infix_word ∷ bare_net ∷ gate_first ∷ []

unfoldable pub nested_corrections : List Correction
nested_corrections = first_nested ∷ last_nested ∷ only_nested ∷ []

unfoldable pub bench_corrections : List Correction
bench_corrections = port_corrections ++ gate_corrections ++ nested_corrections ++ table_corrections
