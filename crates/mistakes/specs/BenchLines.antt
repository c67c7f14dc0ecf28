-- The nets that a line of a .bench text, without its comment, defines and uses.
use Rattle.std.specs.Prelude.{ℕ, ◌==◌, ◌||◌, ◌&&◌, not, nat_lt, Bool, false, if◌then◌else◌, List, drop, filter, length, slice_get, codes, bytes_eq, Option, None, [], unwrap_or}
use Rattle.std.specs.List.{find, list_any, slice_split}
use Rattle.std.specs.Option.{option_map_or}
use Rattle.std.specs.Str.{str_eq_ignore_ascii_case}
use Rattle.texts.specs.Text.{is_empty, is_white}

-- ---- words

abbrev pub is_among : List (List ℕ) → List ℕ → Bool
is_among names name = list_any (bytes_eq name) names

-- white space, or a mark of a .bench line
abbrev pub is_gap : ℕ → Bool
is_gap byte = is_white byte || list_any (λ mark. mark == byte) (codes "(),=")

-- what is between them in a .bench line: names, and words such as NAND
abbrev pub names_in : List ℕ → List (List ℕ)
names_in code = filter (λ name. not (is_empty name)) (slice_split is_gap code)

abbrev pub nth_name : ℕ → List ℕ → Option (List ℕ)
nth_name place code = slice_get (names_in code) place

-- ---- nets

-- `NAME = GATE(NAME, NAME)`, and neither `INPUT(NAME)` nor `OUTPUT(NAME)`
abbrev pub is_assignment : List ℕ → Bool
is_assignment code = list_any (λ byte. byte == 61) code

-- the word INPUT, in any case of its letters
abbrev pub is_input_word : List ℕ → Bool
is_input_word word = str_eq_ignore_ascii_case word (codes "INPUT")

abbrev pub begins_with_input : List ℕ → Bool
begins_with_input code = option_map_or is_input_word (nth_name 0 code) false

-- the net that the line defines
abbrev pub defined_by : List ℕ → Option (List ℕ)
defined_by code =
    if is_assignment code then nth_name 0 code
    else if begins_with_input code then nth_name 1 code
    else None

-- the nets that the line uses: the pins of a gate, or an output
abbrev pub used_by : List ℕ → List (List ℕ)
used_by code = drop (if is_assignment code then 2 else 1) (names_in code)

abbrev pub is_net : Option (List ℕ) → List ℕ → Bool
is_net net name = option_map_or (bytes_eq name) net false

abbrev pub defines : List ℕ → ℕ × List ℕ → Bool
defines name line = is_net (defined_by line.1) name

-- ---- names that are too long

-- longer than a name may be
abbrev pub is_long : List ℕ → Bool
is_long name = nat_lt 255 (length name)

-- the first net with such a name: the one that an assignment defines, or else one that the line uses
abbrev pub long_net : List ℕ → Option (List ℕ)
long_net code =
    if is_assignment code && is_long (unwrap_or (nth_name 0 code) []) then nth_name 0 code
    else find is_long (used_by code)
