-- The ranges of timings and stimuli, in ticks.
use Rattle.std.specs.Prelude.{◌≡◌, ℕ, ◌<◌, ◌≤◌, List, [], All, length}
use Rattle.logic3.specs.declared.change.Change.{Change}
use Rattle.logic3.specs.declared.value.Value.TheVariants.{Unknown}
use Rattle.logic3.specs.Rising.{TicksRise}
use Rattle.netlist.specs.declared.part.Part.{Part}
use Rattle.netlist.specs.declared.part.Part.TheVariants.{Input, Flop}
use Rattle.timing_text.specs.declared.timing.Timing.{Timing}

-- the largest delay of a gate or a flip-flop, and the largest wire delay
abbrev pub most_delay : ℕ
most_delay = 1_000_000

-- the last tick for a horizon or a stimulus, and the largest period
abbrev pub most_ticks : ℕ
most_ticks = 10_000_000

abbrev pub HasDelay : Part → ℕ → Type 0
HasDelay Input delay = delay ≡ 0
HasDelay _ delay = (1 ≤ delay) × (delay ≤ most_delay)

-- each pin has a wire delay, at most the largest one
pub record HasWires (pins : ℕ) (wires : List ℕ) : Type 0 where
  pub each : length wires ≡ pins
  pub most : All (λ wire. wire ≤ most_delay) wires

-- a flip-flop samples each period, at its phase; nothing else has a clock or an initial value
abbrev pub HasClock : Part → Timing → Type 0
HasClock Flop timing = (1 ≤ timing.period) × (timing.period ≤ most_ticks) × (timing.phase < timing.period)
HasClock _ timing = (timing.period ≡ 0) × (timing.phase ≡ 0) × (timing.initial ≡ Unknown)

pub record HasTiming (part : Part) (timing : Timing) : Type 0 where
  pub delay : HasDelay part timing.delay
  pub clock : HasClock part timing

abbrev pub HasStimuli : Part → List Change → Type 0
HasStimuli Input stimuli =
    All (λ (change : Change). change.tick ≤ most_ticks) stimuli
    × TicksRise stimuli
HasStimuli _ stimuli = stimuli ≡ []
