-- Ticks from an optional tick on.
use Rattle.std.specs.Prelude.{ℕ, ◌≤◌, Option, None, Some}

-- the tick isn't before the optional one; false if there is none
abbrev pub NotBefore : ℕ → Option ℕ → Type 0
NotBefore tick None = ⊥
NotBefore tick (Some end) = end ≤ tick
