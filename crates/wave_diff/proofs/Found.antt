-- The first of some ticks.
use Rattle.std.proofs.Common.{◌≡◌, ℕ, zero, suc, ◌+◌, ◌<◌, ◌≤◌, Bool, true, false, filter, find, None, Some, refl, ap, sym, ◌∙◌, arith, ◌⊎◌, inl, inr}
use Rattle.std.specs.List.{range_with_len}
use Rattle.std.proofs.lemmas.Bool.{cases_eq}
use Rattle.std.proofs.lemmas.Option.{same_Some}

-- none passes
pub none_found : (p q : ℕ → Bool) (from count : ℕ) → ((at : ℕ) → from ≤ at → at < from + count → p at ≡ true → q at ≡ false) →
    find q (filter p (range_with_len from count)) ≡ None
none_found p q from zero none = refl
none_found p q from (suc count) none = go (p from) refl (none from (omega arith) (omega arith))
    (none_found p q (from + 1) count (λ at low high. none at (omega arith) (omega arith)))
  where
    go : (taken : Bool) → p from ≡ taken → (p from ≡ true → q from ≡ false) →
        find q (filter p (range_with_len (from + 1) count)) ≡ None → find q (filter p (range_with_len from (suc count))) ≡ None
    go true e here rest = rw (e, here e) rest
    go false e here rest = rw e rest

-- one passes, and none before it
pub one_found : (p q : ℕ → Bool) (from count tick : ℕ) → from ≤ tick → tick < from + count → p tick ≡ true → q tick ≡ true →
    ((at : ℕ) → from ≤ at → at < tick → p at ≡ true → q at ≡ false) →
    find q (filter p (range_with_len from count)) ≡ Some tick
one_found p q from zero tick low high taken passes none = absurd (omega arith)
one_found p q from (suc count) tick low high taken passes none = go (cases_eq from tick) (p from) refl
    (λ apart. one_found p q (from + 1) count tick (omega (arith, apart)) (omega arith) taken passes (λ at a b. none at (omega arith) b))
  where
    go : (from ≡ tick) ⊎ (from ≡ tick → ⊥) → (here : Bool) → p from ≡ here →
        ((from ≡ tick → ⊥) → find q (filter p (range_with_len (from + 1) count)) ≡ Some tick) →
        find q (filter p (range_with_len from (suc count))) ≡ Some tick
    go (inl same) here e rest = rw (ap p same ∙ taken, ap q same ∙ passes) (ap Some same)
    go (inr apart) true e rest = rw (e, none from (omega arith) (omega (arith, apart)) e) (rest apart)
    go (inr apart) false e rest = rw e (rest apart)

-- where nothing is found none passes
pub none_passes : (p q : ℕ → Bool) (from count : ℕ) → find q (filter p (range_with_len from count)) ≡ None →
    (at : ℕ) → from ≤ at → at < from + count → p at ≡ true → q at ≡ false
none_passes p q from zero none at low high taken = absurd (omega arith)
none_passes p q from (suc count) none at low high taken = go (none_passes p q (from + 1) count) (cases_eq from at) (p from) refl (q from) refl
  where
    rest : ((at : ℕ) → from + 1 ≤ at → at < from + 1 + count → p at ≡ true → q at ≡ false) → (from ≡ at → ⊥) → q at ≡ false
    rest fail apart = fail at (omega (arith, apart)) (omega arith) taken

    go : (find q (filter p (range_with_len (from + 1) count)) ≡ None →
        (at : ℕ) → from + 1 ≤ at → at < from + 1 + count → p at ≡ true → q at ≡ false) →
        (from ≡ at) ⊎ (from ≡ at → ⊥) → (here : Bool) → p from ≡ here → (passes : Bool) → q from ≡ passes → q at ≡ false
    go later (inl same) true e true w = let wrong = rw (e, w) at none in absurd (cc)
    go later (inl same) true e false w = ap q (sym same) ∙ w
    go later (inl same) false e passes w = let wrong = sym (ap p (sym same) ∙ e) ∙ taken in absurd (cc)
    go later (inr apart) true e true w = let wrong = rw (e, w) at none in absurd (cc)
    go later (inr apart) true e false w = rest (later (rw (e, w) at none)) apart
    go later (inr apart) false e passes w = rest (later (rw e at none)) apart

-- a tick is the first that passes
pub record IsFirst (p q : ℕ → Bool) (from count tick : ℕ) : Type 0 where
  pub low : from ≤ tick
  pub high : tick < from + count
  pub taken : p tick ≡ true
  pub passes : q tick ≡ true
  pub none : (at : ℕ) → from ≤ at → at < tick → p at ≡ true → q at ≡ false

pub found_passes : (p q : ℕ → Bool) (from count tick : ℕ) → find q (filter p (range_with_len from count)) ≡ Some tick → IsFirst p q from count tick
found_passes p q from zero tick found = absurd (cc)
found_passes p q from (suc count) tick found = go (found_passes p q (from + 1) count tick) (p from) refl (q from) refl
  where
    here : from ≡ tick → p from ≡ true → q from ≡ true → IsFirst p q from (suc count) tick
    here same taken passes = record {
      low = omega arith;
      high = omega arith;
      taken = ap p (sym same) ∙ taken;
      passes = ap q (sym same) ∙ passes;
      none = λ at low high t. absurd (omega arith);
    }

    later : IsFirst p q (from + 1) count tick → (p from ≡ true → q from ≡ false) → IsFirst p q from (suc count) tick
    later rest fails = record {
      low = let low = rest.low in omega arith;
      high = let high = rest.high in omega arith;
      taken = rest.taken;
      passes = rest.passes;
      none = λ at low high t. elim (cases_eq from at) [
        | inl same ↦ ap q (sym same) ∙ fails (ap p same ∙ t)
        | inr apart ↦ rest.none at (omega (arith, apart)) high t
      ];
    }

    go : (find q (filter p (range_with_len (from + 1) count)) ≡ Some tick → IsFirst p q (from + 1) count tick) →
        (taken : Bool) → p from ≡ taken → (passes : Bool) → q from ≡ passes → IsFirst p q from (suc count) tick
    go rest true e true w = here (same_Some from tick (rw (e, w) at found)) e w
    go rest true e false w = later (rest (rw (e, w) at found)) (λ t. w)
    go rest false e passes w = later (rest (rw e at found)) (λ t. let wrong = sym t ∙ e in absurd (cc))
