-- Signals that repeat themselves.
use Rattle.std.specs.Prelude.{ℕ, zero, suc, ◌-◌, ◌&&◌, nat_le, nat_lt, Bool, if◌then◌else◌, Option}
use Rattle.std.specs.Option.{option_map_or}
use Rattle.logic3.specs.declared.value.Value.{Value}
use Rattle.logic3.specs.Value.{is_same}
use Rattle.causes.specs.declared.cause.Reason.{Reason}
use Rattle.causes.specs.declared.cause.Reason.TheVariants.{Pin, Swings}

-- a signal shows what it showed a period before
abbrev pub repeats : (ℕ → Value) → ℕ → ℕ → Bool
repeats signal period tick = nat_le period tick && is_same (signal tick) (signal (tick - period))

-- the last tick, up to a tick, at which a signal doesn't repeat: from the next one on it swings
abbrev pub swing_start : (ℕ → Value) → ℕ → ℕ → ℕ
swing_start signal period zero = 0
swing_start signal period (suc tick) = if repeats signal period (suc tick) then swing_start signal period tick else suc tick

-- the reason for a value that a signal took at one tick, and again at a later one: its swing, if that began before the first of them
abbrev pub swing : (ℕ → Value) → ℕ → Reason → ℕ → Reason
swing signal from reason again =
    let start = swing_start signal (again - from) again in
    if nat_lt start from then Swings start (again - from) else reason

-- the reason for a value that a signal took at a tick, if a pin decides and the signal took the value again
abbrev pub unless_swing : (ℕ → Value) → ℕ → Option ℕ → Reason → Reason
unless_swing signal from again (Pin place) = option_map_or (swing signal from (Pin place)) again (Pin place)
unless_swing signal from again reason = reason
