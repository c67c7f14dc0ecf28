-- Fronts of lines, and the forms that they begin like.
use Rattle.std.specs.Prelude.{ℕ, Bool, true, false, List, [], ◌∷◌}
use Rattle.std.specs.List.{list_any}
use Rattle.std.specs.Option.{option_map_or}
use Rattle.mistakes.specs.Forms.{Slot, next}

-- the row takes each of the tokens, in order
abbrev pub begins : List Slot → List (List ℕ) → Bool
begins row [] = true
begins row (token ∷ tokens) = option_map_or (λ after. begins after tokens) (next row token) false

-- some form takes each of them
abbrev pub begins_some : List (List Slot) → List (List ℕ) → Bool
begins_some forms tokens = list_any (λ row. begins row tokens) forms
