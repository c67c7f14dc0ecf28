-- At which ticks nets look at their pins.
use Rattle.std.proofs.Common.{◌≡◌, ℕ, ◌+◌, ◌-◌, ◌<◌, ◌≤◌, nat_lt, Bool, true, false, cond, None, Some, refl, sym, arith, ◌⊎◌, inl, inr, ltb-false}
use Rattle.std.proofs.lemmas.Bool.{cases_lt, le-ltb}
use Rattle.std.proofs.lemmas.Option.{none-some, same_Some}
use Rattle.netlist.specs.declared.part.Part.{Part}
use Rattle.netlist.specs.declared.part.Part.TheVariants.{Input, Gate, Flop}
use Rattle.timing_text.specs.declared.timing.Timing.{Timing}
use Rattle.timing_text.specs.Ranges.{HasClock}
use Rattle.design.specs.Samples.{first_sample, last_sample, next_sample, asked_of_part, asker_of_part}
use Rattle.design.proofs.SampleTicks.{first_sample-least, last_sample-greatest, last_sample-is, last_sample-le, next_sample-is, next_sample-le, next_sample-least}

-- where a test chooses Some, it failed, and this is what it chose
chosen : {A : Type 0} (test : Bool) (x y : A) → cond test None (Some x) ≡ Some y → (test ≡ false) × (x ≡ y)
chosen true x y e = absurd (none-some y e)
chosen false x y e = (refl, same_Some x y e)

module _ (timing : Timing) where
  -- the sample that a flip-flop shows, a delay later, and whether there is one
  abbrev begins : ℕ
  begins = timing.delay + first_sample timing.period timing.phase

  abbrev shown_at : ℕ → ℕ
  shown_at tick = last_sample timing.period timing.phase (tick - timing.delay)

  -- a delay later at least
  pub asked-early : (part : Part) → HasClock part timing → (tick asked : ℕ) → asked_of_part part timing tick ≡ Some asked → asked + timing.delay ≤ tick
  asked-early Input clock tick asked is = absurd (none-some asked is)
  asked-early (Gate kind) clock tick asked is =
      let found = chosen (nat_lt tick timing.delay) (tick - timing.delay) asked is in
      omega (arith, ltb-false tick timing.delay found.0, found.1)
  asked-early Flop (some, most, below) tick asked is =
      let found = chosen (nat_lt tick begins) (shown_at tick) asked is in
      let past = ltb-false tick begins found.0 in
      omega (arith, past, found.1, last_sample-le timing.period timing.phase some below (tick - timing.delay) (omega (arith, past)))

  -- and a net never asks for an earlier tick than before
  pub asked-mono : (part : Part) → HasClock part timing → (tick late asked : ℕ) → asked_of_part part timing tick ≡ Some asked → tick ≤ late →
      (next : ℕ) × (asked_of_part part timing late ≡ Some next) × (asked ≤ next)
  asked-mono Input clock tick late asked is h = absurd (none-some asked is)
  asked-mono (Gate kind) clock tick late asked is h =
      let found = chosen (nat_lt tick timing.delay) (tick - timing.delay) asked is in
      let past = ltb-false tick timing.delay found.0 in
      (late - timing.delay, rw (le-ltb late timing.delay (omega (arith, past))) refl, omega (arith, found.1))
  asked-mono Flop (some, most, below) tick late asked is h =
      let found = chosen (nat_lt tick begins) (shown_at tick) asked is in
      let past = ltb-false tick begins found.0 in
      let sample = last_sample-is timing.period timing.phase some below (tick - timing.delay) (omega (arith, past)) in
      let early = last_sample-le timing.period timing.phase some below (tick - timing.delay) (omega (arith, past)) in
      let later = last_sample-greatest timing.period timing.phase some below (late - timing.delay) (shown_at tick) sample (omega (arith, early)) in
      (shown_at late, rw (le-ltb late begins (omega (arith, past))) refl, omega (arith, found.1, later))

  -- before the first that asks for a tick, earlier ones are asked for
  pub asked-before : (part : Part) → HasClock part timing → (known first tick asked : ℕ) → asker_of_part part timing known ≡ Some first →
      asked_of_part part timing tick ≡ Some asked → tick < first → asked < known
  asked-before Input clock known first tick asked from is below = absurd (none-some asked is)
  asked-before (Gate kind) clock known first tick asked from is below =
      let found = chosen (nat_lt tick timing.delay) (tick - timing.delay) asked is in
      omega (arith, ltb-false tick timing.delay found.0, found.1, same_Some (known + timing.delay) first from)
  asked-before Flop (some, most, phased) known first tick asked from is below =
      let found = chosen (nat_lt tick begins) (shown_at tick) asked is in
      let past = ltb-false tick begins found.0 in
      let at = same_Some (next_sample timing.period timing.phase known + timing.delay) first from in
      let sample = last_sample-is timing.period timing.phase some phased (tick - timing.delay) (omega (arith, past)) in
      let early = last_sample-le timing.period timing.phase some phased (tick - timing.delay) (omega (arith, past)) in
      let sooner : shown_at tick < known = go past at early (cases_lt (shown_at tick) known)
      (λ late. next_sample-least timing.period timing.phase some phased known (shown_at tick) sample late) in
      omega (arith, found.1, sooner)
    where
      go : begins ≤ tick → next_sample timing.period timing.phase known + timing.delay ≡ first → shown_at tick ≤ tick - timing.delay →
          (shown_at tick < known) ⊎ (known ≤ shown_at tick) →
          (known ≤ shown_at tick → next_sample timing.period timing.phase known ≤ shown_at tick) → shown_at tick < known
      go past at early (inl sooner) least = sooner
      go past at early (inr late) least = absurd (omega (arith, past, at, early, below, least late))

  -- from it on that tick or later ones are, and none before it less the delay
  pub asked-from : (part : Part) → HasClock part timing → (known first tick : ℕ) → asker_of_part part timing known ≡ Some first → first ≤ tick →
      (asked : ℕ) × (asked_of_part part timing tick ≡ Some asked) × (first ≤ asked + timing.delay)
  asked-from Input clock known first tick from after = absurd (none-some first from)
  asked-from (Gate kind) clock known first tick from after =
      let is = same_Some (known + timing.delay) first from in
      (tick - timing.delay, rw (le-ltb tick timing.delay (omega (arith, is))) refl, omega (arith, is))
  asked-from Flop (some, most, below) known first tick from after =
      let is = same_Some (next_sample timing.period timing.phase known + timing.delay) first from in
      let sample = next_sample-is timing.period timing.phase some below known in
      let begun = first_sample-least timing.period timing.phase some below (next_sample timing.period timing.phase known) sample in
      let later = last_sample-greatest timing.period timing.phase some below (tick - timing.delay) (next_sample timing.period timing.phase known)
      sample (omega (arith, is)) in
      (shown_at tick, rw (le-ltb tick begins (omega (arith, is, begun))) refl, omega (arith, is, later))

  -- it is at least a delay after that tick
  pub asker-late : (part : Part) → HasClock part timing → (known first : ℕ) → asker_of_part part timing known ≡ Some first → known + timing.delay ≤ first
  asker-late Input clock known first from = absurd (none-some first from)
  asker-late (Gate kind) clock known first from = omega (arith, same_Some (known + timing.delay) first from)
  asker-late Flop (some, most, below) known first from = omega (
    arith,
    same_Some (next_sample timing.period timing.phase known + timing.delay) first from,
    next_sample-le timing.period timing.phase some below known,
  )

  -- and no earlier than the one for an earlier tick
  pub asker-mono : (part : Part) → HasClock part timing → (low high first : ℕ) → asker_of_part part timing low ≡ Some first → low ≤ high →
      (next : ℕ) × (asker_of_part part timing high ≡ Some next) × (first ≤ next)
  asker-mono Input clock low high first from h = absurd (none-some first from)
  asker-mono (Gate kind) clock low high first from h =
      (high + timing.delay, refl, omega (arith, same_Some (low + timing.delay) first from))
  asker-mono Flop (some, most, below) low high first from h =
      let sample = next_sample-is timing.period timing.phase some below high in
      let late = next_sample-le timing.period timing.phase some below high in
      let least = next_sample-least timing.period timing.phase some below low (next_sample timing.period timing.phase high) sample (omega (arith, late)) in (
        next_sample timing.period timing.phase high + timing.delay,
        refl,
        omega (arith, same_Some (next_sample timing.period timing.phase low + timing.delay) first from, least),
      )

  -- where nothing asks for a tick, nothing does for another
  pub asker-none : (part : Part) (tick other : ℕ) → asker_of_part part timing tick ≡ None → asker_of_part part timing other ≡ None
  asker-none Input tick other none = refl
  asker-none (Gate kind) tick other none = absurd (none-some (tick + timing.delay) (sym none))
  asker-none Flop tick other none = absurd (none-some (next_sample timing.period timing.phase tick + timing.delay) (sym none))

  -- and then no tick asks for any
  pub unasked : (part : Part) (known tick : ℕ) → asker_of_part part timing known ≡ None → asked_of_part part timing tick ≡ None
  unasked Input known tick none = refl
  unasked (Gate kind) known tick none = absurd (none-some (known + timing.delay) (sym none))
  unasked Flop known tick none = absurd (none-some (next_sample timing.period timing.phase known + timing.delay) (sym none))
