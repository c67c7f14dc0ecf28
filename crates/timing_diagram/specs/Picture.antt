-- The text of a drawing as a picture.
use Rattle.std.specs.Prelude.{ℕ, ◌+◌, ◌*◌, ◌==◌, ◌&&◌, if◌then◌else◌, min, max, List, [], ◌∷◌, ◌++◌, length, flat_map, codes}
use Rattle.std.specs.List.{enumerate_from, range_with_len}
use Rattle.logic3.specs.declared.value.Value.{Value}
use Rattle.texts.specs.Written.{numbered}
use Rattle.vcd_dump.specs.Dump.{Trace}
use Rattle.timing_diagram.specs.declared.mark.Mark.{Mark}
use Rattle.timing_diagram.specs.declared.mark.Mark.TheVariants.{Low, Fall, High, Rise, Unsure, Changing}
use Rattle.timing_diagram.specs.Bus.{BusTrace, begins, digits, fits, lasting, shows_bits}
use Rattle.timing_diagram.specs.Columns.{Ticks, column_count, shown_tick}
use Rattle.timing_diagram.specs.Marks.{mark_at}
use Rattle.timing_diagram.specs.Ruler.{label_column, label_count, label_tick}

-- the length in bytes of the longest name
abbrev pub widest : {A : Type 0} → List (List ℕ × A) → ℕ
widest [] = 0
widest ((name, shown) ∷ lanes) = max (length name) (widest lanes)

-- that of nets and buses
abbrev pub name_width : List Trace → List BusTrace → ℕ
name_width traces buses = max (widest traces) (widest buses)

-- a byte escaped for XML
abbrev pub escaped_byte : ℕ → List ℕ
escaped_byte byte =
    if byte == 38 then codes "&amp;"
    else if byte == 60 then codes "&lt;"
    else if byte == 62 then codes "&gt;"
    else byte ∷ []

-- a name escaped for XML
abbrev pub escaped : List ℕ → List ℕ
escaped name = flat_map escaped_byte name

-- where the columns begin: right of the names, of at most 255 bytes
abbrev pub left_edge : List Trace → List BusTrace → ℕ
left_edge traces buses = 8 * min (name_width traces buses) 255 + 16

abbrev pub picture_height : List Trace → List BusTrace → ℕ
picture_height traces buses = 30 * (length traces + length buses) + 40

-- a mark ten wide and sixteen high, from the left end of its column on
abbrev pub mark_path : Mark → List ℕ
mark_path Low = codes " 16h10"
mark_path Fall = codes " 0v16h10"
mark_path High = codes " 0h10"
mark_path Rise = codes " 16v-16h10"
mark_path Unsure = codes " 0h10m-10 16h10m-10 0l10-16"
mark_path Changing = codes " 0l10 16m-10 0l10-16"

abbrev pub column_path : (ℕ → Value) → Ticks → ℕ → List ℕ
column_path signal ticks column = numbered (codes "M") (10 * column) ++ mark_path (mark_at signal ticks column)

-- the lines of a signal
abbrev pub signal_path : (ℕ → Value) → Ticks → List ℕ
signal_path signal ticks = flat_map (column_path signal ticks) (range_with_len 0 (column_count ticks))

-- on a screen whose user prefers dark pages, light lines on a dark ground; else, on paper too, black ones on white
abbrev pub dark_style : List ℕ
dark_style =
    codes "<style>@media screen and (prefers-color-scheme: dark) { .nullsim { color: #ddd } .nullsim rect { fill: #111 } }</style>\n"

-- the head of the picture: its size, which a page may scale, and what a screen reader says of it
abbrev pub heading : ℕ → ℕ → ℕ → List ℕ
heading left height columns =
    let width = left + 10 * columns + 80 in
    numbered (codes "<svg xmlns=\"http://www.w3.org/2000/svg\" width=\"") width
    ++ numbered (codes "\" height=\"") height
    ++ numbered (codes "\" viewBox=\"0 0 ") width
    ++ numbered (codes " ") height
    ++ codes "\" role=\"img\" class=\"nullsim\" color=\"black\" fill=\"currentColor\" font-family=\"monospace\" font-size=\"12\">\n"
    ++ codes "<title>Timing diagram by nullsim</title>\n"
    ++ dark_style ++ codes "<rect width=\"100%\" height=\"100%\" fill=\"white\"/>\n"

-- a line of the grid at the column of a label, and its tick
abbrev pub grid_line : ℕ → ℕ → Ticks → ℕ → List ℕ
grid_line left height ticks place =
    numbered (codes "<path d=\"M") (left + 10 * label_column ticks place)
    ++ numbered (codes " 20V") height
    ++ numbered (codes "\" stroke=\"currentColor\" stroke-opacity=\"0.2\"/><text y=\"14\" x=\"") (left + 10 * label_column ticks place)
    ++ numbered (codes "\">") (label_tick ticks place)
    ++ codes "</text>\n"

-- the name at a place
abbrev pub name_row : ℕ → List ℕ → List ℕ
name_row place name =
    numbered (codes "<text x=\"8\" y=\"") (30 * place + 44) ++ codes "\">" ++ escaped name ++ codes "</text>"

-- lines at a place
abbrev pub path_row : ℕ → ℕ → List ℕ → List ℕ
path_row left place path =
    numbered (codes "<path transform=\"translate(") left
    ++ numbered (codes " ") (30 * place + 30)
    ++ codes ")\" d=\"" ++ path ++ codes "\" fill=\"none\" stroke=\"currentColor\"/>\n"

-- the lines of a signal at a place
abbrev pub signal_row : ℕ → Ticks → ℕ → (ℕ → Value) → List ℕ
signal_row left ticks place signal = path_row left place (signal_path signal ticks)

abbrev pub trace_row : ℕ → Ticks → ℕ × Trace → List ℕ
trace_row left ticks (place, (name, signal)) = name_row place name ++ signal_row left ticks place signal

-- a box around columns
abbrev pub box_path : ℕ → ℕ → List ℕ
box_path column columns =
    numbered (codes "M") (10 * column) ++ numbered (codes " 0h") (10 * columns) ++ numbered (codes "v16h-") (10 * columns) ++ codes "z"

-- the lines of the columns from one on that show the same of a bus: a box, or the mark of a change; they have been drawn if that
-- began before
abbrev pub value_path : List (ℕ → Value) → Ticks → ℕ → List ℕ
value_path bits ticks column =
    if begins bits ticks column
    then (if shows_bits bits ticks column then box_path column (lasting bits ticks column)
    else numbered (codes "M") (10 * column) ++ mark_path Changing)
    else []

-- the lines of a bus
abbrev pub bus_path : List (ℕ → Value) → Ticks → List ℕ
bus_path bits ticks = flat_map (value_path bits ticks) (range_with_len 0 (column_count ticks))

-- the digits in a box, if it has room for them
abbrev pub value_label : ℕ → ℕ → List (ℕ → Value) → Ticks → ℕ → List ℕ
value_label left place bits ticks column =
    if begins bits ticks column && (shows_bits bits ticks column && fits bits ticks column)
    then numbered (codes "<text x=\"") (left + 10 * column + 2) ++ numbered (codes "\" y=\"") (30 * place + 42)
    ++ codes "\">" ++ digits bits (shown_tick ticks column) ++ codes "</text>\n"
    else []

abbrev pub bus_labels : ℕ → ℕ → List (ℕ → Value) → Ticks → List ℕ
bus_labels left place bits ticks = flat_map (value_label left place bits ticks) (range_with_len 0 (column_count ticks))

-- a bus at a place
abbrev pub bus_row : ℕ → Ticks → ℕ × BusTrace → List ℕ
bus_row left ticks (place, (name, bits)) =
    name_row place name ++ path_row left place (bus_path bits ticks) ++ bus_labels left place bits ticks

-- a line for each label
abbrev pub grid : ℕ → ℕ → Ticks → List ℕ
grid left height ticks = flat_map (grid_line left height ticks) (range_with_len 0 (label_count ticks))

-- the drawing as SVG: the nets, and after them the buses
abbrev pub svg_text : Ticks → List Trace → List BusTrace → List ℕ
svg_text ticks traces buses =
    let left = left_edge traces buses in
    let height = picture_height traces buses in
    heading left height (column_count ticks) ++ grid left height ticks
    ++ flat_map (trace_row left ticks) (enumerate_from 0 traces)
    ++ flat_map (bus_row left ticks) (enumerate_from (length traces) buses)
    ++ codes "</svg>\n"
