-- What the columns of a drawing show.
use Rattle.std.specs.Prelude.{ℕ, ◌+◌, ◌==◌, ◌||◌, if◌then◌else◌, Option, None, Some, fold, slice_get, take}
use Rattle.std.specs.Option.{option_and_then}
use Rattle.logic3.specs.declared.value.Value.{Value}
use Rattle.logic3.specs.declared.value.Value.TheVariants.{Zero, One, Unknown}
use Rattle.timing_diagram.specs.Columns.{Ticks, shown_tick}
use Rattle.timing_diagram.specs.Drawing.{marks_text}
use Rattle.timing_diagram.specs.Marks.{shows_value}
use Rattle.timing_diagram.specs.WaveJson.{wave_characters}

-- the value of a character, if it shows one
abbrev pub value_of_character : ℕ → Option Value
value_of_character byte =
    if byte == 95 || byte == 92 then Some Zero
    else if byte == 45 || byte == 47 then Some One
    else if byte == 120 then Some Unknown
    else None

-- the value that the characters drawn for a signal show in a column, if any
abbrev pub drawn_value : (ℕ → Value) → Ticks → ℕ → Option Value
drawn_value signal ticks column = option_and_then value_of_character (slice_get (marks_text signal ticks) column)

-- the value of a signal that a column shows, if any
abbrev pub column_value : (ℕ → Value) → Ticks → ℕ → Option Value
column_value signal ticks column =
    if shows_value signal ticks column then Some (signal (shown_tick ticks column)) else None

-- the value that a character of WaveJSON shows, after one that shows another: a dot shows the same
abbrev pub value_of_wave : Option Value → ℕ → Option Value
value_of_wave before byte =
    if byte == 46 then before
    else if byte == 48 then Some Zero
    else if byte == 49 then Some One
    else if byte == 120 then Some Unknown
    else None

-- the value that the characters of WaveJSON up to a column show, if any
abbrev pub wave_value : (ℕ → Value) → Ticks → ℕ → Option Value
wave_value signal ticks column = fold value_of_wave None (take (column + 1) (wave_characters signal ticks))
