-- Nets that are marked.
use Rattle.std.specs.Prelude.{ℕ, ◌==◌, Bool, List}
use Rattle.std.specs.List.{list_any}

-- a net is one of these
abbrev pub is_among : List ℕ → ℕ → Bool
is_among nets net = list_any (λ other. net == other) nets
