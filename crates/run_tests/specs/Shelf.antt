-- Texts on a shelf, each with its name.
use Rattle.std.specs.Prelude.{List, ℕ, Option, find, option_map, bytes_eq}
use denote.Ref.{Bor}

-- a name and the text under it
abbrev pub Named : Type 0
Named = Bor (List ℕ) × Bor (List ℕ)

-- the first text under a name
abbrev pub text_under : List Named → List ℕ → Option (List ℕ)
text_under shelf name = option_map (λ (row : Named). row.1.now) (find (λ (row : Named). bytes_eq row.0.now name) shelf)
