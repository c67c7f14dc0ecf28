-- Changes whose ticks rise.
use Rattle.std.proofs.Common.{◌≡◌, ◌≢◌, ℕ, suc, ◌+◌, ◌-◌, ◌<◌, ◌≤◌, Bool, true, false, not, leb, ltb, List, [], ◌∷◌, length, get_or, slice_get, ◌⊎◌, inl, inr, refl, ◌∙◌, arith}
use Rattle.std.specs.List.{list_any}
use Rattle.std.specs.Option.{option_map_or}
use Rattle.std.proofs.lemmas.Bool.{cases_eq, cases_lt}
use Rattle.std.proofs.lemmas.Bool.Decides.{nat_tests}
use Rattle.std.proofs.lemmas.List.Elements.{All-from_get_or}
use Rattle.std.proofs.lemmas.List.Folds.{list_any_none, list_any_at}
use Rattle.std.proofs.lemmas.Option.{slice_get-get_or}
use Rattle.logic3.specs.declared.change.Change.{Change}
use Rattle.logic3.specs.Rising.{TicksRise}

-- some change is at the tick or later
abbrev pub is_reached : ℕ → List Change → Bool
is_reached tick changes = list_any (λ (change : Change). leb tick change.tick) changes

-- a tick is above that of the last change, if there is one
abbrev pub is_after_last : ℕ → List Change → Bool
is_after_last tick changes = option_map_or (λ (last : Change). ltb last.tick tick) (slice_get changes (length changes - 1)) true

-- where ticks rise, it is enough to look at the last one
is_reached-at : (tick : ℕ) (changes : List Change) (last : ℕ) (d : Change) → last + 1 ≡ length changes → TicksRise changes →
    is_reached tick changes ≡ not (ltb (get_or changes last d).tick tick)
is_reached-at tick changes last d end rises = go (cases_lt (get_or changes last d).tick tick)
  where
    is_late : Change → Bool
    is_late change = leb tick change.tick

    below : (get_or changes last d).tick < tick → (place : ℕ) → place < length changes → (place ≡ last) ⊎ (place ≢ last) →
        is_late (get_or changes place d) ≡ false
    below later place within (inl same) = rw same (grind (arith, nat_tests))
    below later place within (inr apart) =
        let rising : (get_or changes place d).tick < (get_or changes last d).tick = rises place last d (omega arith) (omega arith) in
        grind (arith, nat_tests)

    go : ((get_or changes last d).tick < tick) ⊎ (tick ≤ (get_or changes last d).tick) →
        is_reached tick changes ≡ not (ltb (get_or changes last d).tick tick)
    go (inl later) =
        list_any_none is_late changes (All-from_get_or (λ change. is_late change ≡ false) changes d (λ place within. below later place within (cases_eq place last)))
        ∙ grind (arith, nat_tests)
    go (inr reached) = list_any_at is_late changes last d (omega arith) (grind (arith, nat_tests)) ∙ grind (arith, nat_tests)

pub is_reached-last : (tick : ℕ) (changes : List Change) → TicksRise changes → is_reached tick changes ≡ not (is_after_last tick changes)
is_reached-last tick [] rises = refl
is_reached-last tick (first ∷ rest) rises =
    let last : suc (length rest) - 1 ≡ length rest = omega arith in
    rw (last, slice_get-get_or (first ∷ rest) (length rest) first (omega arith))
    (is_reached-at tick (first ∷ rest) (length rest) first (omega arith) rises)
