-- Between the changes of what it reads a net changes nothing, so a walk over these changes finds all of its own.
use Rattle.std.proofs.Common.{◌≡◌, ℕ, ◌+◌, ◌<◌, ◌≤◌, min, List, [], ◌∷◌, Option, None, Some, map, option_map, refl, ap, sym, ◌∙◌, arith, ◌⊎◌, inl, inr}
use Rattle.std.specs.Option.{option_map_or}
use Rattle.std.proofs.lemmas.Bool.{cases_lt}
use Rattle.std.proofs.lemmas.Option.{none-some, same_Some}
use Rattle.logic3.specs.declared.value.Value.{Value}
use Rattle.logic3.specs.Wave.{Wave, value_at}
use Rattle.netlist.specs.declared.part.Part.{Part}
use Rattle.netlist.specs.declared.part.Part.TheVariants.{Input, Gate, Flop}
use Rattle.timing_text.specs.declared.timing.Timing.{Timing}
use Rattle.timing_text.specs.Ranges.{HasClock}
use Rattle.design.specs.Circuit.{Net}
use Rattle.design.specs.Samples.{next_sample, asked_of_part, asker_of_part, first_asker}
use Rattle.design.specs.Equations.{equation_of_part, equation}
use Rattle.design.proofs.CallerLemmas.{asked-before, asked-early, asked-from, asked-mono, asker-late}
use Rattle.gate_process.specs.Knowledge.{Knowledge, as_known}
use Rattle.gate_process.specs.Reading.{read_by_part, read_by, read_tick, made_of, shown, unread}
use Rattle.gate_process.specs.Step.{signals_of}
use Rattle.gate_process.proofs.ReadOnce.{seen_at}

-- ---- a gate and a flip-flop read the ticks that they ask for, an input the tick itself

reads_asked : (part : Part) (timing : Timing) (known first tick : ℕ) → asker_of_part part timing known ≡ Some first →
    read_tick part timing tick ≡ asked_of_part part timing tick
reads_asked Input timing known first tick begins = absurd (none-some first begins)
reads_asked (Gate kind) timing known first tick begins = refl
reads_asked Flop timing known first tick begins = refl

reads_itself : (part : Part) (timing : Timing) (known tick : ℕ) → asker_of_part part timing known ≡ None → read_tick part timing tick ≡ Some tick
reads_itself Input timing known tick none = refl
reads_itself (Gate kind) timing known tick none = absurd (none-some (known + timing.delay) (sym none))
reads_itself Flop timing known tick none = absurd (none-some (next_sample timing.period timing.phase known + timing.delay) (sym none))

-- never later ones
pub read_early : (timing : Timing) (part : Part) → HasClock part timing → (tick at : ℕ) → read_tick part timing tick ≡ Some at → at ≤ tick
read_early timing Input clock tick at is = let same = same_Some tick at is in omega (arith, same)
read_early timing (Gate kind) clock tick at is = let early = asked-early timing (Gate kind) clock tick at is in omega (arith, early)
read_early timing Flop clock tick at is = let early = asked-early timing Flop clock tick at is in omega (arith, early)

-- and later ones for later ticks
read_onwards : (timing : Timing) (part : Part) → HasClock part timing → (tick late at : ℕ) → read_tick part timing tick ≡ Some at → tick ≤ late →
    (next : ℕ) × (read_tick part timing late ≡ Some next) × (at ≤ next)
read_onwards timing Input clock tick late at is h = let same = same_Some tick at is in (late, refl, omega (arith, same, h))
read_onwards timing (Gate kind) clock tick late at is h = asked-mono timing (Gate kind) clock tick late at is h
read_onwards timing Flop clock tick late at is h = asked-mono timing Flop clock tick late at is h

-- ---- a net shows the same until the first tick that reads the next change

module _ (net : Net) (clock : HasClock net.part net.timing) where
  by_values : (read : List Wave) (make : List Value → Value) (at : Option ℕ) →
      option_map_or (λ t. make (seen_at t read)) at (unread net.part net.timing)
      ≡ option_map_or make (option_map (λ t. seen_at t read) at) (unread net.part net.timing)
  by_values read make None = refl
  by_values read make (Some at) = refl

  -- a net that sees the same shows the same
  same_seen : (read : List Wave) (tick late : ℕ) →
      option_map (λ t. seen_at t read) (read_tick net.part net.timing late)
      ≡ option_map (λ t. seen_at t read) (read_tick net.part net.timing tick) →
      shown net read late ≡ shown net read tick
  same_seen read tick late same =
      by_values read (made_of net.part) (read_tick net.part net.timing late)
      ∙ ap (λ values. option_map_or (made_of net.part) values (unread net.part net.timing)) same
      ∙ sym (by_values read (made_of net.part) (read_tick net.part net.timing tick))

  -- while it reads nothing
  module _ (read : List Wave) (tick limit : ℕ) (nothing : read_tick net.part net.timing tick ≡ None) where
    pub unread_steady : (late : ℕ) → late < option_map_or (min limit) (first_asker net 0) 0 → shown net read late ≡ shown net read tick
    unread_steady late h = go (first_asker net 0) refl h
      where
        none_yet : (first : ℕ) → first_asker net 0 ≡ Some first → late < first → (at : Option ℕ) → read_tick net.part net.timing late ≡ at →
            read_tick net.part net.timing late ≡ None
        none_yet first begins early None is = is
        none_yet first begins early (Some at) is =
            let before = asked-before net.timing net.part clock 0 first late at begins
            (sym (reads_asked net.part net.timing 0 first late begins) ∙ is) early in
            absurd (omega (arith, before))

        go : (first : Option ℕ) → first_asker net 0 ≡ first → late < option_map_or (min limit) first 0 → shown net read late ≡ shown net read tick
        go None none early = absurd (omega (arith, early))
        go (Some first) begins early =
            same_seen read tick late (ap (option_map (λ t. seen_at t read))
            (none_yet first begins (omega (arith, early)) (read_tick net.part net.timing late) refl ∙ sym nothing))

  -- once it reads a tick
  module _ (tick at : ℕ) (is : read_tick net.part net.timing tick ≡ Some at) where
    -- and what it reads changes nothing up to another
    module _ (read : List Wave) (limit change : ℕ) (next : at < change) where
      pub read_later : tick < limit → tick < option_map_or (min limit) (first_asker net change) change
      read_later h = go (first_asker net change) refl
        where
          late : (first : ℕ) → first_asker net change ≡ Some first → (tick < first) ⊎ (first ≤ tick) → tick < first
          late first begins (inl h) = h
          late first begins (inr h) =
              let from = asked-from net.timing net.part clock change first tick begins h in
              let same = same_Some at from.0 (sym is ∙ reads_asked net.part net.timing change first tick begins ∙ from.1) in
              absurd (omega (arith, same, next, from.2, asker-late net.timing net.part clock change first begins))

          go : (first : Option ℕ) → first_asker net change ≡ first → tick < option_map_or (min limit) first change
          go None none =
              let same = same_Some at tick (sym is ∙ reads_itself net.part net.timing change tick none) in omega (arith, same, next)
          go (Some first) begins = let after = late first begins (cases_lt tick first) in omega (arith, after, h)

      pub read_stays : ((t : ℕ) → at ≤ t → t < change → seen_at t read ≡ seen_at at read) →
          (late : ℕ) → tick ≤ late → late < option_map_or (min limit) (first_asker net change) change → shown net read late ≡ shown net read tick
      read_stays still late after h = go (first_asker net change) refl h
        where
          seen : (then : ℕ) → read_tick net.part net.timing late ≡ Some then → at ≤ then → then < change → shown net read late ≡ shown net read tick
          seen then at_then low high =
              same_seen read tick late
              (ap (option_map (λ t. seen_at t read)) at_then ∙ ap Some (still then low high) ∙ sym (ap (option_map (λ t. seen_at t read)) is))

          go : (first : Option ℕ) → first_asker net change ≡ first → late < option_map_or (min limit) first change →
              shown net read late ≡ shown net read tick
          go None none early =
              seen late (reads_itself net.part net.timing change late none)
              (let low = read_early net.timing net.part clock tick at is in omega (arith, low, after)) early
          go (Some first) begins early =
              let then = read_onwards net.timing net.part clock tick late at is after in
              seen then.0 then.1 then.2
              (asked-before net.timing net.part clock change first late then.0 begins
              (sym (reads_asked net.part net.timing change first late begins) ∙ then.1) (omega (arith, early)))

    -- and what is left shows the same from there on
    pub read_left : (old new : List Wave) → ((t : ℕ) → at ≤ t → seen_at t new ≡ seen_at t old) →
        (late : ℕ) → tick ≤ late → shown net new late ≡ shown net old late
    read_left old new same late after =
        let then = read_onwards net.timing net.part clock tick late at is after in
        ap (λ place. option_map_or (λ t. made_of net.part (seen_at t new)) place (unread net.part net.timing)) then.1
        ∙ ap (made_of net.part) (same then.0 then.2)
        ∙ sym (ap (λ place. option_map_or (λ t. made_of net.part (seen_at t old)) place (unread net.part net.timing)) then.1)

-- what it shows while it reads nothing is its initial value, which is X but for a flip-flop's
pub unread-initial : (part : Part) (timing : Timing) → HasClock part timing → unread part timing ≡ timing.initial
unread-initial Input timing (period, phase, unknown) = sym unknown
unread-initial (Gate kind) timing (period, phase, unknown) = sym unknown
unread-initial Flop timing clock = refl

-- ---- before any tick what a net reads shows what its equation gives

signals_read : (received : List Knowledge) → map value_at (map as_known received) ≡ signals_of received
signals_read [] = refl
signals_read (known ∷ received) = ap (λ signals. value_at (as_known known) ∷ signals) (signals_read received)

pub shown_by : (net : Net) (received : List Knowledge) (tick : ℕ) → shown net (read_by net received) tick ≡ equation net (signals_of received) tick
shown_by net received tick = go net.part
  where
    shows : Part → Value
    shows part =
        option_map_or (λ at. made_of part (seen_at at (read_by_part part net received))) (read_tick part net.timing tick) (unread part net.timing)

    go : (part : Part) → shows part ≡ equation_of_part part net (signals_of received) tick
    go Input = refl
    go (Gate kind) = ap (λ signals. equation_of_part (Gate kind) net signals tick) (signals_read received)
    go Flop = ap (λ signals. equation_of_part Flop net signals tick) (signals_read received)
