-- The ticks at which signals are compared.
use Rattle.std.specs.Prelude.{◌≡◌, ℕ, ◌+◌, ◌-◌, ◌%◌, ◌≤◌, ◌==◌, nat_lt, if◌then◌else◌, List, filter, Result, Ok, Err}
use Rattle.std.specs.List.{range_with_len}
use Rattle.wave_diff.specs.declared.fault.ComparedFault.{ComparedFault}
use Rattle.wave_diff.specs.declared.fault.ComparedFault.TheVariants.{BadEvery, PastHorizon}

-- the multiples of a number from one tick to another
pub record ComparedTicks : Type 0 where
  pub from : ℕ
  pub every : ℕ
  pub to : ℕ

-- ticks at which signals can be compared
pub record IsComparable (ticks : ComparedTicks) : Type 0 where
  pub some : 1 ≤ ticks.every
  pub forward : ticks.from ≤ ticks.to

-- a tick is one of them
pub record IsCompared (ticks : ComparedTicks) (tick : ℕ) : Type 0 where
  pub late_enough : ticks.from ≤ tick
  pub early_enough : tick ≤ ticks.to
  pub multiple : tick % ticks.every ≡ 0

-- these ticks in order
abbrev pub compared_ticks : ComparedTicks → List ℕ
compared_ticks ticks =
    filter (λ tick. tick % ticks.every == 0) (range_with_len ticks.from (ticks.to + 1 - ticks.from))

-- the multiples of a number from a tick up to a horizon, if signals can be compared there
abbrev pub compared_of : ℕ → ℕ → ℕ → Result ComparedTicks ComparedFault
compared_of from every horizon =
    if every == 0 then Err BadEvery
    else if nat_lt horizon from then Err PastHorizon
    else Ok (record { from = from; every = every; to = horizon })
