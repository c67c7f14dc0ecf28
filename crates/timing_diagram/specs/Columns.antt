-- The ticks that are drawn, and their columns.
use Rattle.std.specs.Prelude.{ℕ, Bool, ◌+◌, ◌-◌, ◌*◌, ◌/◌, ◌≤◌, ◌==◌, nat_lt, if◌then◌else◌, min, Result, Ok, Err}
use Rattle.timing_text.specs.Ranges.{most_ticks}
use Rattle.timing_diagram.specs.declared.fault.ColumnsFault.{ColumnsFault}
use Rattle.timing_diagram.specs.declared.fault.ColumnsFault.TheVariants.{NoStep, Backwards, PastHorizon, TooManyColumns}

-- the ticks from one to another, the number of ticks per column, and whether a column shows its end alone
pub record Ticks : Type 0 where
  pub from : ℕ
  pub to : ℕ
  pub step : ℕ
  pub at_end : Bool

-- the largest number of columns in a drawing
abbrev pub most_columns : ℕ
most_columns = 1_000

-- the number of columns that contain all the ticks
abbrev pub column_count : Ticks → ℕ
column_count ticks = (ticks.to - ticks.from) / ticks.step + 1

-- the first tick of a column
abbrev pub first_tick : Ticks → ℕ → ℕ
first_tick ticks column = ticks.from + column * ticks.step

-- the last tick of a column
abbrev pub last_tick : Ticks → ℕ → ℕ
last_tick ticks column = min (first_tick ticks column + (ticks.step - 1)) ticks.to

-- the tick whose value a column shows
abbrev pub shown_tick : Ticks → ℕ → ℕ
shown_tick ticks column = if ticks.at_end then last_tick ticks column else first_tick ticks column

-- ticks that can be drawn
pub record IsDrawable (ticks : Ticks) : Type 0 where
  pub some : 1 ≤ ticks.step
  pub forward : ticks.from ≤ ticks.to
  pub few : column_count ticks ≤ most_columns
  pub soon : ticks.to ≤ most_ticks

-- the ticks from one to another by a step, if they can be drawn for a run up to this horizon
abbrev pub columns_of : ℕ → ℕ → ℕ → Bool → ℕ → Result Ticks ColumnsFault
columns_of from to step at_end horizon =
    if step == 0 then Err NoStep
    else if nat_lt to from then Err Backwards
    else if nat_lt horizon to then Err PastHorizon
    else if nat_lt most_columns ((to - from) / step + 1) then Err TooManyColumns
    else Ok (record { from = from; to = to; step = step; at_end = at_end })
