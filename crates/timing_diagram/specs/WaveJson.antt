-- The data of a drawing for WaveDrom.
use Rattle.std.specs.Prelude.{ℕ, ◌-◌, ◌==◌, ◌&&◌, not, Bool, if◌then◌else◌, List, [], ◌∷◌, ◌++◌, map, flat_map, replicate, codes, decimal, encode_utf8_all}
use Rattle.std.specs.List.{range_with_len}
use Rattle.logic3.specs.declared.value.Value.{Value}
use Rattle.logic3.specs.declared.value.Value.TheVariants.{Zero, One, Unknown}
use Rattle.serde_json.specs.Data.{Data, string, array, object, no_members, member}
use Rattle.serde_json.specs.View.{items_of}
use Rattle.serde_json.specs.Written.{compact_text}
use Rattle.vcd_dump.specs.Dump.{Trace}
use Rattle.timing_diagram.specs.Bus.{BusTrace, begins, digits, shows_bits, shows_same}
use Rattle.timing_diagram.specs.Columns.{Ticks, column_count, shown_tick}
use Rattle.timing_diagram.specs.Marks.{shows_value}
use Rattle.timing_diagram.specs.Ruler.{label_column, label_count, label_tick}

-- a text of characters, each given by its number
abbrev pub text_data : List ℕ → Data
text_data characters = string (encode_utf8_all characters)

-- a list of data
abbrev pub list_data : List Data → Data
list_data items = array (items_of items)

-- ---- nets

-- the character of a value
abbrev pub value_character : Value → ℕ
value_character Zero = 48
value_character One = 49
value_character Unknown = 120

-- whether a column shows the same value as the one before it
abbrev pub repeats : (ℕ → Value) → Ticks → ℕ → Bool
repeats signal ticks column = not (column == 0) && shows_same ticks (column - 1) column signal

-- the character of a column: that of its value, a dot if the column before shows it too, or a bar if the net changes within
abbrev pub wave_character : (ℕ → Value) → Ticks → ℕ → ℕ
wave_character signal ticks column =
    if repeats signal ticks column then 46
    else if shows_value signal ticks column then value_character (signal (shown_tick ticks column))
    else 124

-- those of all columns
abbrev pub wave_characters : (ℕ → Value) → Ticks → List ℕ
wave_characters signal ticks = map (wave_character signal ticks) (range_with_len 0 (column_count ticks))

-- the lane of a net
abbrev pub net_data : Ticks → Trace → Data
net_data ticks (name, signal) =
    object (member (codes "name") (text_data name) (member (codes "wave") (text_data (wave_characters signal ticks)) no_members))

-- ---- buses

-- the character of a column: an equals sign at which a value begins, a bar if a bit changes within, else a dot
abbrev pub bus_character : List (ℕ → Value) → Ticks → ℕ → ℕ
bus_character bits ticks column =
    if begins bits ticks column then (if shows_bits bits ticks column then 61 else 124) else 46

abbrev pub bus_characters : List (ℕ → Value) → Ticks → List ℕ
bus_characters bits ticks = map (bus_character bits ticks) (range_with_len 0 (column_count ticks))

-- the digits of the value that begins at a column, if one does
abbrev pub bus_value : List (ℕ → Value) → Ticks → ℕ → List Data
bus_value bits ticks column =
    if begins bits ticks column && shows_bits bits ticks column
    then text_data (digits bits (shown_tick ticks column)) ∷ []
    else []

-- those of all values
abbrev pub bus_values : List (ℕ → Value) → Ticks → List Data
bus_values bits ticks = flat_map (bus_value bits ticks) (range_with_len 0 (column_count ticks))

-- the lane of a bus
abbrev pub bus_data : Ticks → BusTrace → Data
bus_data ticks (name, bits) =
    object (member (codes "data") (list_data (bus_values bits ticks))
    (member (codes "name") (text_data name) (member (codes "wave") (text_data (bus_characters bits ticks)) no_members)))

-- ---- the drawing

-- the tick of a label, and nothing at the nine columns after it
abbrev pub label_data : Ticks → ℕ → List Data
label_data ticks place = text_data (decimal (label_tick ticks place)) ∷ replicate 9 (text_data [])

-- what is written at the left edge of each column: the labels, each at that of its column
abbrev pub labels_data : Ticks → List Data
labels_data ticks =
    replicate (label_column ticks 0) (text_data []) ++ flat_map (label_data ticks) (range_with_len 0 (label_count ticks))

-- the lanes: the nets, and after them the buses
abbrev pub lanes_data : Ticks → List Trace → List BusTrace → List Data
lanes_data ticks traces buses = map (net_data ticks) traces ++ map (bus_data ticks) buses

abbrev pub wave_data : Ticks → List Trace → List BusTrace → Data
wave_data ticks traces buses =
    object (member (codes "foot") (object (member (codes "tick") (list_data (labels_data ticks)) no_members))
    (member (codes "signal") (list_data (lanes_data ticks traces buses)) no_members))

-- the drawing as WaveJSON
unfoldable pub wave_json_text : Ticks → List Trace → List BusTrace → List ℕ
wave_json_text ticks traces buses = compact_text (wave_data ticks traces buses) ++ codes "\n"
