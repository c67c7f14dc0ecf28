-- How often numbers are in lists, and lists without repeats.
use Rattle.std.specs.Prelude.{ℕ, ◌==◌, not, List, [], ◌∷◌, count_by, filter}

-- how often a number is in a list
abbrev pub times : ℕ → List ℕ → ℕ
times n numbers = count_by (λ m. m == n) numbers

-- each number at its first place
abbrev pub distinct : List ℕ → List ℕ
distinct [] = []
distinct (n ∷ numbers) = n ∷ filter (λ m. not (m == n)) (distinct numbers)
