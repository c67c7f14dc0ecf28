-- The options of a run and their ranges.
use Rattle.std.specs.Prelude.{ℕ, ◌&&◌, not, nat_lt, nat_le, Bool, if◌then◌else◌, Option, None, Some, Result, Ok, Err}
use Rattle.std.specs.Option.{option_map_or}
use Rattle.timing_text.specs.declared.fault.OptionFault.{OptionFault}
use Rattle.timing_text.specs.declared.fault.OptionFault.TheVariants.{BadDelay, BadPeriod, BadHorizon}
use Rattle.timing_text.specs.Ranges.{most_delay, most_ticks}

-- from 1 up to the limit
abbrev pub is_in_limits : ℕ → ℕ → Bool
is_in_limits number most = nat_le 1 number && nat_le number most

-- the fault of a default delay and a period, if any
abbrev pub option_fault : ℕ → ℕ → Option OptionFault
option_fault delay period =
    if not (is_in_limits delay most_delay) then Some BadDelay
    else if not (is_in_limits period most_ticks) then Some BadPeriod
    else None

-- the horizon at a tick, or its fault
abbrev pub horizon_of : ℕ → Result ℕ OptionFault
horizon_of ticks = if nat_lt most_ticks ticks then Err BadHorizon else Ok ticks

-- the first fault of a default delay and a period that aren't in their ranges
abbrev pub options_of : ℕ → ℕ → Result (Unit {0}) OptionFault
options_of delay period = option_map_or Err (option_fault delay period) (Ok tt)
