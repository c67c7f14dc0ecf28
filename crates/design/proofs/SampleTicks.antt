-- The ticks at which flip-flops sample.
use Rattle.std.proofs.Common.{◌≡◌, ℕ, zero, suc, ◌+◌, ◌-◌, ◌*◌, ◌/◌, ◌%◌, ◌<◌, ◌≤◌, ◌==◌, min, Bool, true, false, cond, refl, subst, ◌∙◌, arith, ◌⊎◌, inl, inr}
use Rattle.std.proofs.Math.Nat.{add-mul-mod_self_left, div-add-mod, mod-eq_of_lt, mul-div-le, mul-le-mul_left, div-lt_iff_lt-mul, mul_comm}
use Rattle.std.proofs.lemmas.Bool.{cases_lt, eqb-true, eqb-false}
use Rattle.std.proofs.lemmas.Nat.{le-div}
use Rattle.std.specs.Int.{div_ceil}
use Rattle.design.specs.Samples.{IsSample, first_sample, last_sample, next_sample}

module _ (period phase : ℕ) (some : 0 < period) (below : phase < period) where
  -- periods after the phase
  is_sample : (n : ℕ) → 1 ≤ phase + period * n → IsSample period phase (phase + period * n)
  is_sample n late = (late, add-mul-mod_self_left phase period n ∙ mod-eq_of_lt below)

  in_periods : (tick : ℕ) → IsSample period phase tick → tick ≡ phase + period * (tick / period)
  in_periods tick (late, left) = let whole = div-add-mod tick period in omega (arith, whole, left)

  -- a period at least where there is one
  one_period : (n : ℕ) → 1 ≤ n → period ≤ period * n
  one_period n one = let more = mul-le-mul_left period one in omega (arith, more)

  some_periods : (n : ℕ) → 1 ≤ period * n → 1 ≤ n
  some_periods zero more = absurd (omega (arith, more))
  some_periods (suc n) more = omega arith

  -- ---- the first

  pub first_sample-late : (1 ≤ first_sample period phase) × (phase ≤ first_sample period phase)
  first_sample-late = go (phase == 0) refl
    where
      go : (test : Bool) → (phase == 0) ≡ test → (1 ≤ cond test period phase) × (phase ≤ cond test period phase)
      go true is = let none = eqb-true phase 0 is in (some, omega (arith, none))
      go false is = let more : 1 ≤ phase = omega (arith, eqb-false phase 0 is) in (more, omega arith)

  pub first_sample-is : IsSample period phase (first_sample period phase)
  first_sample-is = go (phase == 0) refl
    where
      go : (test : Bool) → (phase == 0) ≡ test → IsSample period phase (cond test period phase)
      go true is =
          let none = eqb-true phase 0 is in
          let once : phase + period * 1 ≡ period = omega (arith, none) in
          subst (IsSample period phase) once (is_sample 1 (omega (arith, once)))
      go false is =
          let more : 1 ≤ phase = omega (arith, eqb-false phase 0 is) in
          (more, mod-eq_of_lt below)

  pub first_sample-least : (tick : ℕ) → IsSample period phase tick → first_sample period phase ≤ tick
  first_sample-least tick sample = go (phase == 0) refl
    where
      go : (test : Bool) → (phase == 0) ≡ test → cond test period phase ≤ tick
      go true is =
          let none = eqb-true phase 0 is in
          let whole = in_periods tick sample in
          let one = one_period (tick / period) (some_periods (tick / period) (omega (arith, none, whole, sample.0))) in
          omega (arith, one, none, whole)
      go false is = omega (arith, in_periods tick sample)

  -- ---- the last one up to a tick

  pub last_sample-le : (tick : ℕ) → first_sample period phase ≤ tick → last_sample period phase tick ≤ tick
  last_sample-le tick begun = omega (arith, mul-div-le (tick - phase) period, begun, first_sample-late.1)

  pub last_sample-greatest : (tick sample : ℕ) → IsSample period phase sample → sample ≤ tick → sample ≤ last_sample period phase tick
  last_sample-greatest tick sample is early =
      let whole = in_periods sample is in
      let within : sample / period ≤ (tick - phase) / period =
      le-div (sample / period) (tick - phase) period some (omega (arith, whole, early, mul_comm period (sample / period))) in
      omega (arith, whole, mul-le-mul_left period within)

  pub last_sample-is : (tick : ℕ) → first_sample period phase ≤ tick → IsSample period phase (last_sample period phase tick)
  last_sample-is tick begun =
      is_sample ((tick - phase) / period)
      (omega (arith, first_sample-late.0, last_sample-greatest tick (first_sample period phase) first_sample-is begun))

  -- ---- the next one from a tick on

  abbrev periods_from : ℕ → ℕ
  periods_from tick = (tick - phase + (period - 1)) / period

  pub next_sample-is : (tick : ℕ) → IsSample period phase (next_sample period phase tick)
  next_sample-is tick = go (cases_lt (first_sample period phase) (phase + period * periods_from tick))
    where
      go : (first_sample period phase < phase + period * periods_from tick) ⊎ (phase + period * periods_from tick ≤ first_sample period phase) →
          IsSample period phase (next_sample period phase tick)
      go (inl later) =
          let same : phase + period * periods_from tick ≡ next_sample period phase tick = omega (arith, later) in
          subst (IsSample period phase) same (is_sample (periods_from tick) (omega (arith, later)))
      go (inr earlier) =
          let same : first_sample period phase ≡ next_sample period phase tick = omega (arith, earlier) in
          subst (IsSample period phase) same first_sample-is

  pub next_sample-le : (tick : ℕ) → tick ≤ next_sample period phase tick
  next_sample-le tick =
      let whole = div-add-mod (tick - phase + (period - 1)) period in
      let part : (tick - phase + (period - 1)) % period < period = omega arith in
      omega (arith, whole, part, some)

  pub next_sample-least : (tick sample : ℕ) → IsSample period phase sample → tick ≤ sample → next_sample period phase tick ≤ sample
  next_sample-least tick sample is late =
      let whole = in_periods sample is in
      let few : periods_from tick < sample / period + 1 =
      (div-lt_iff_lt-mul {k = period} {x = tick - phase + (period - 1)} {y = sample / period + 1} some).1
      (omega (arith, whole, late, some, below, mul_comm period (sample / period))) in
      let within : periods_from tick ≤ sample / period = omega (arith, few) in
      omega (arith, whole, mul-le-mul_left period within, first_sample-least sample is)

-- so many periods, and one more where something is left
pub div_ceil-is : (x period : ℕ) → 0 < period → div_ceil x period ≡ (x + (period - 1)) / period
div_ceil-is x period pos = go (cases_lt 0 (x % period))
  where
    whole : period * (x / period) + x % period ≡ x
    whole = omega arith

    part : x % period < period
    part = omega arith

    between : (n : ℕ) → n * period ≤ x + (period - 1) → x + (period - 1) < (n + 1) * period → n ≡ (x + (period - 1)) / period
    between n low high =
        let up : (x + (period - 1)) / period < n + 1 =
        (div-lt_iff_lt-mul {k = period} {x = x + (period - 1)} {y = n + 1} pos).1 high in
        omega (arith, up, le-div n (x + (period - 1)) period pos low)

    go : (0 < x % period) ⊎ (x % period ≤ 0) → div_ceil x period ≡ (x + (period - 1)) / period
    go (inl some) = between (x / period + min 1 (x % period))
        (let one : min 1 (x % period) ≡ 1 = omega (arith, some) in rw one (omega (arith, some, whole, part, mul_comm period (x / period))))
        (let one : min 1 (x % period) ≡ 1 = omega (arith, some) in rw one (omega (arith, some, whole, part, mul_comm period (x / period))))
    go (inr none) = between (x / period + min 1 (x % period))
        (let zero_left : min 1 (x % period) ≡ 0 = omega (arith, none) in rw zero_left (omega (arith, none, whole, part, mul_comm period (x / period))))
        (let zero_left : min 1 (x % period) ≡ 0 = omega (arith, none) in rw zero_left (omega (arith, none, whole, part, mul_comm period (x / period))))
