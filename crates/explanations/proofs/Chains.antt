-- The last item that a chain of iterators gives.
use Rattle.std.proofs.Common.{◌≡◌, List, [], ◌∷◌, map, Option, Some, None, option_map, refl, ap, ◌∙◌}
use Rattle.std.specs.Iterator.{Drains, DrainsIf}
use Rattle.std.specs.List.{last_or}
use Rattle.std.proofs.lemmas.Iterator.{YieldsList, items_from_drains}

last_or-map : {A B : Type 0} (v : A → B) (first : Option A) (xs : List A) → option_map v (last_or first xs) ≡ last_or (option_map v first) (map v xs)
last_or-map v first [] = refl
last_or-map v first (x ∷ xs) = last_or-map v (Some x) xs

ends_of : {S A : Type 0} (steps : S → Option A → S → Type 0) (s : S) (xs : List A) → Drains steps s xs → DrainsIf steps (Unit {0}) s xs
ends_of steps s xs (u, (t, yields, step)) = (t, yields, λ _. (u, step))

pub last_from_yields_List : {S A B : Type 0} {steps : S → Option A → S → Type 0} {v : A → B} {s : S} {all : List B} (r : Option A) →
    ((xs : List A) × Drains steps s xs × (r ≡ last_or None xs)) → YieldsList steps v s all → option_map v r ≡ last_or None all
last_from_yields_List {steps = steps} {v = v} {s = s} r ran chain =
    ap (option_map v) ran.2 ∙ last_or-map v None ran.0 ∙ ap (last_or None) (items_from_drains ran.0 (ends_of steps s ran.0 ran.1) chain)
