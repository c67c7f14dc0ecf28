-- A signal stays until its next change.
use Rattle.std.proofs.Common.{◌≡◌, ◌≢◌, ◌∙◌, refl, sym, ap, arith, ℕ, zero, suc, ◌+◌, ◌-◌, ◌<◌, ◌≤◌, nat_lt, true, false, List, [], ◌∷◌, Option, None, Some, ◌⊎◌, inl, inr}
use Rattle.std.specs.Prelude.{Contains}
use Rattle.std.specs.Option.{option_map_or}
use Rattle.std.proofs.lemmas.Bool.{le-ltb, lt-ltb, cases_lt}
use Rattle.logic3.specs.declared.value.Value.{Value}
use Rattle.logic3.specs.Wave.{changes_between, value_before, IsBefore}
use Rattle.logic3.proofs.CallerLemmas.{quiet, Contains-wave_of_iff}
use Rattle.texts.specs.Text.{is_empty}
use Rattle.timing_diagram.specs.Marks.{is_steady}

some-is_empty : {A : Type 0} (xs : List A) (x : A) → Contains xs x → is_empty xs ≡ false
some-is_empty [] x found = grind arith
some-is_empty (y ∷ xs) x found = refl

-- a signal that shows at each tick of a span what it shows at the first is steady
steady_from : (signal : ℕ → Value) (first last : ℕ) → ((tick : ℕ) → first ≤ tick → tick ≤ last → signal tick ≡ signal first) →
    is_steady signal first last ≡ true
steady_from signal first last same = ap is_empty (quiet signal (first + 1) (last + 1) go)
  where
    go : (tick : ℕ) → first + 1 ≤ tick → tick < last + 1 → signal tick ≡ value_before signal tick
    go zero a b = absurd (omega arith)
    go (suc tick) a b = same (suc tick) (omega arith) (omega arith) ∙ sym (same tick (omega arith) (omega arith))

-- a change makes it unsteady
pub changes_there : (signal : ℕ → Value) (first last at : ℕ) (v : Value) → first < at → at ≤ last → signal at ≡ v → signal (at - 1) ≢ v →
    is_steady signal first last ≡ false
changes_there signal first last zero v after within now differs = absurd (omega arith)
changes_there signal first last (suc at) v after within now differs =
    let same : suc at - 1 ≡ at = omega arith in
    some-is_empty (changes_between signal (first + 1) (last + 1)) (record { tick = suc at; value = v })
    ((Contains-wave_of_iff signal (first + 1) (last + 1) (suc at) v).1
    (omega arith, omega arith, now, λ is. differs (ap signal same ∙ is)))

-- so it is steady if its next change, if any, is after the last tick
pub steady-next : (signal : ℕ → Value) (first last : ℕ) (next : Option ℕ) →
    ((at : ℕ) → next ≡ Some at → first < at) → ((at : ℕ) → next ≡ Some at → signal at ≢ signal first) →
    ((at : ℕ) → first ≤ at → IsBefore at next → signal at ≡ signal first) →
    is_steady signal first last ≡ option_map_or (λ at. nat_lt last at) next true
steady-next signal first last None later differs steady = steady_from signal first last (λ tick a b. steady tick a tt)
steady-next signal first last (Some at) later differs steady = go (cases_lt last at)
  where
    after : first < at
    after = later at refl

    go : (last < at) ⊎ (at ≤ last) → is_steady signal first last ≡ nat_lt last at
    go (inl past) =
        steady_from signal first last (λ tick a b. steady tick a (omega (arith, b, past))) ∙ sym (lt-ltb last at past)
    go (inr within) =
        changes_there signal first last at (signal at) after within refl
        (λ is. differs at refl (sym is ∙ steady (at - 1) (omega (arith, after)) (omega (arith, after))))
        ∙ sym (le-ltb last at within)
