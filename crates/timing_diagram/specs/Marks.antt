-- What a drawing shows for a signal in a column.
use Rattle.std.specs.Prelude.{ℕ, ◌+◌, ◌-◌, ◌==◌, ◌&&◌, ◌||◌, not, Bool, if◌then◌else◌}
use Rattle.logic3.specs.declared.value.Value.{Value}
use Rattle.logic3.specs.declared.value.Value.TheVariants.{Zero, One, Unknown}
use Rattle.logic3.specs.Value.{is_same}
use Rattle.logic3.specs.Wave.{changes_between}
use Rattle.texts.specs.Text.{is_empty}
use Rattle.timing_diagram.specs.declared.mark.Mark.{Mark}
use Rattle.timing_diagram.specs.declared.mark.Mark.TheVariants.{Low, Fall, High, Rise, Unsure, Changing}
use Rattle.timing_diagram.specs.Columns.{Ticks, first_tick, last_tick, shown_tick}

-- whether a signal is constant from one tick to another
abbrev pub is_steady : (ℕ → Value) → ℕ → ℕ → Bool
is_steady signal first last = is_empty (changes_between signal (first + 1) (last + 1))

-- whether a signal shows a value in a column: the one at its end, or a value that it has throughout
abbrev pub shows_value : (ℕ → Value) → Ticks → ℕ → Bool
shows_value signal ticks column =
    ticks.at_end || is_steady signal (first_tick ticks column) (last_tick ticks column)

-- whether it shows another value than right before the column; the first column has no edge
abbrev pub has_edge : (ℕ → Value) → Ticks → ℕ → Bool
has_edge signal ticks column =
    not (column == 0) && not (is_same (signal (first_tick ticks column - 1)) (signal (shown_tick ticks column)))

-- the mark of a value, with an edge before it or without
abbrev pub level_mark : Bool → Value → Mark
level_mark edge Zero = if edge then Fall else Low
level_mark edge One = if edge then Rise else High
level_mark edge Unknown = Unsure

-- the mark of a column
abbrev pub mark_at : (ℕ → Value) → Ticks → ℕ → Mark
mark_at signal ticks column =
    if shows_value signal ticks column
    then level_mark (has_edge signal ticks column) (signal (shown_tick ticks column))
    else Changing
