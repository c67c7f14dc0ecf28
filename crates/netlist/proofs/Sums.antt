-- Sums over a list.
use Rattle.std.proofs.Common.{◌≡◌, ℕ, ◌+◌, List, map}
use Rattle.std.specs.List.{sum_by}
use Rattle.std.proofs.lemmas.List.Folds.{fold-map}

pub sum_by-map : {X Y : Type 0} (f : Y → ℕ) (h : X → Y) (xs : List X) → sum_by f (map h xs) ≡ sum_by (λ x. f (h x)) xs
sum_by-map f h xs = fold-map (λ (total : ℕ) y. total + f y) h 0 xs
