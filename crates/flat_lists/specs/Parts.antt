-- The parts of a list between places in it.
use Rattle.std.specs.Prelude.{◌≡◌, ℕ, ◌≤◌, List, [], ◌∷◌, length, slice_range}

-- the parts of a list from this place up to the first of these, and from each of them up to the next
abbrev pub parts_from : {A : Type 0} → ℕ → List ℕ → List A → List (List A)
parts_from first [] xs = []
parts_from first (next ∷ bounds) xs = slice_range xs first next ∷ parts_from next bounds xs

-- the parts of a list between these places
abbrev pub parts : {A : Type 0} → List ℕ → List A → List (List A)
parts [] xs = []
parts (first ∷ bounds) xs = parts_from first bounds xs

-- no place is past the next, and the last is the end of the list
abbrev pub AreBoundsFrom : {A : Type 0} → ℕ → List ℕ → List A → Type 0
AreBoundsFrom last [] xs = last ≡ length xs
AreBoundsFrom first (next ∷ bounds) xs = (first ≤ next) × AreBoundsFrom next bounds xs

abbrev pub AreBounds : {A : Type 0} → List ℕ → List A → Type 0
AreBounds [] xs = ⊥
AreBounds (first ∷ bounds) xs = AreBoundsFrom first bounds xs
