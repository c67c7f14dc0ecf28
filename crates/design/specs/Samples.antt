-- The ticks at which a net reads its pins and their sources: the only place where the meaning of timing and wire delays is
-- defined.
use Rattle.std.specs.Prelude.{◌≡◌, ℕ, ◌+◌, ◌-◌, ◌*◌, ◌/◌, ◌%◌, ◌==◌, ◌≤◌, nat_lt, max, if◌then◌else◌, Option, None, Some, slice_index_or}
use Rattle.netlist.specs.declared.part.Part.{Part}
use Rattle.netlist.specs.declared.part.Part.TheVariants.{Input, Gate, Flop}
use Rattle.timing_text.specs.declared.timing.Timing.{Timing}
use Rattle.design.specs.Circuit.{Net}

-- a flip-flop samples at the ticks of at least 1 whose remainder by its period is its phase
abbrev pub IsSample : ℕ → ℕ → ℕ → Type 0
IsSample period phase tick = (1 ≤ tick) × (tick % period ≡ phase)

-- the first of them
abbrev pub first_sample : ℕ → ℕ → ℕ
first_sample period phase = if phase == 0 then period else phase

-- the last one up to a tick, if the first isn't after it
abbrev pub last_sample : ℕ → ℕ → ℕ → ℕ
last_sample period phase tick = phase + period * ((tick - phase) / period)

-- the next one from a tick on
abbrev pub next_sample : ℕ → ℕ → ℕ → ℕ
next_sample period phase tick = max (first_sample period phase) (phase + period * ((tick - phase + (period - 1)) / period))

-- the tick of its pins that decides what a net shows at a tick; none for an input, before a gate's delay is over, and before a
-- flip-flop's first sample shows
abbrev pub asked_of_part : Part → Timing → ℕ → Option ℕ
asked_of_part Input timing tick = None
asked_of_part (Gate kind) timing tick = if nat_lt tick timing.delay then None else Some (tick - timing.delay)
asked_of_part Flop timing tick =
    if nat_lt tick (timing.delay + first_sample timing.period timing.phase) then None
    else Some (last_sample timing.period timing.phase (tick - timing.delay))

abbrev pub asked_tick : Net → ℕ → Option ℕ
asked_tick net tick = asked_of_part net.part net.timing tick

-- the tick of its source that a pin shows at a tick, by its wire delay; none before that is over
abbrev pub source_tick : ℕ → ℕ → Option ℕ
source_tick wire tick = if nat_lt tick wire then None else Some (tick - wire)

-- the wire delay of the pin at a place
abbrev pub wire_at : Net → ℕ → ℕ
wire_at net place = slice_index_or net.wires place 0

-- the first tick that asks for this tick of the pins or a later one; none for an input
abbrev pub asker_of_part : Part → Timing → ℕ → Option ℕ
asker_of_part Input timing tick = None
asker_of_part (Gate kind) timing tick = Some (tick + timing.delay)
asker_of_part Flop timing tick = Some (next_sample timing.period timing.phase tick + timing.delay)

abbrev pub first_asker : Net → ℕ → Option ℕ
first_asker net tick = asker_of_part net.part net.timing tick
