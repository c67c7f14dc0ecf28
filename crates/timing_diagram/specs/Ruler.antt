-- The ticks that are written above the columns.
use Rattle.std.specs.Prelude.{ℕ, ◌+◌, ◌-◌, ◌*◌, ◌/◌, ◌%◌, nat_lt, if◌then◌else◌}
use Rattle.timing_diagram.specs.Columns.{Ticks}

-- ten steps
abbrev pub ten_steps : Ticks → ℕ
ten_steps ticks = 10 * ticks.step

-- the number of ticks from the first one up to a multiple of ten steps
abbrev pub ahead : Ticks → ℕ
ahead ticks = (ten_steps ticks - ticks.from % ten_steps ticks) % ten_steps ticks

-- the first multiple of ten steps that is drawn, or if none is, the first tick
abbrev pub first_label : Ticks → ℕ
first_label ticks = if nat_lt (ticks.to - ticks.from) (ahead ticks) then ticks.from else ticks.from + ahead ticks

-- the number of labels up to the last tick, ten steps apart
abbrev pub label_count : Ticks → ℕ
label_count ticks = (ticks.to - first_label ticks) / ten_steps ticks + 1

-- the tick of a label, and the column in which it is
abbrev pub label_tick : Ticks → ℕ → ℕ
label_tick ticks place = first_label ticks + place * ten_steps ticks

abbrev pub label_column : Ticks → ℕ → ℕ
label_column ticks place = (label_tick ticks place - ticks.from) / ticks.step
