-- The value that an input has at each tick: by drives of its own, or drawn.
use Rattle.std.specs.Prelude.{◌≡◌, ℕ, ◌+◌, ◌-◌, ◌*◌, ◌/◌, ◌%◌, ◌<◌, ◌≤◌, ◌==◌, ◌&&◌, nat_le, nat_lt, not, if◌then◌else◌, Bool, true, false, List, [], ◌∷◌}
use Rattle.std.specs.List.{list_any}
use Rattle.logic3.specs.declared.value.Value.{Value}
use Rattle.logic3.specs.declared.value.Value.TheVariants.{Zero, One, Unknown}
use Rattle.rand_core.specs.Pcg32Seed.{pcg32_seed}
use Rattle.rand_pcg.specs.Lcg.{advance}
use Rattle.rand_pcg.specs.Pcg.{multiplier_64, pcg32, pcg32_of_seed}
use Rattle.netlist.specs.Netlist.{most_nets}
use Rattle.drawn_stimuli.specs.declared.drive.Drive.{Drive}
use Rattle.drawn_stimuli.specs.declared.drive.Drive.TheVariants.{Clock, ClockFrom, Hold, HoldBits, Pulse}
use Rattle.drawn_stimuli.specs.declared.drive.Rounds.{Rounds}

-- ---- drives

abbrev pub bit : Bool → Value
bit true = One
bit false = Zero

-- whether a tick is in a pulse: from its first tick up to but not including its last
abbrev pub in_pulse : Drive → ℕ → Bool
in_pulse (Clock half) tick = false
in_pulse (ClockFrom half first begins_high) tick = false
in_pulse (Hold value) tick = false
in_pulse (HoldBits ones unknown) tick = false
in_pulse (Pulse from to) tick = nat_le from tick && nat_lt tick to

-- whether a clock with a first change shows at a tick what it doesn't begin with: in the half period from that change on, and in
-- every second one after that
abbrev pub is_turned : ℕ → ℕ → ℕ → Bool
is_turned half first tick = nat_le first tick && (tick - first) / half % 2 == 0

-- the lowest of the bits
abbrev pub lowest_bit : ℕ → ℕ → Value
lowest_bit ones unknown = if unknown % 2 == 1 then Unknown else bit (ones % 2 == 1)

-- a clock is 0 in its first half period, then 1 in every second one; with a first change it is 0 before that, or 1 if it begins
-- high, and the other value where it is turned; one input shows the lowest bit of a number; a pulse is 1 at its ticks
abbrev pub drive_value : Drive → ℕ → Value
drive_value (Clock half) tick = bit (tick / half % 2 == 1)
drive_value (ClockFrom half first begins_high) tick = bit (if begins_high then not (is_turned half first tick) else is_turned half first tick)
drive_value (Hold value) tick = value
drive_value (HoldBits ones unknown) tick = lowest_bit ones unknown
drive_value (Pulse from to) tick = bit (in_pulse (Pulse from to) tick)

-- the value of the first drive of an input, but 1 at the ticks of the other ones, which are pulses
abbrev pub drives_value : Drive → List Drive → ℕ → Value
drives_value first others tick = if list_any (λ other. in_pulse other tick) others then One else drive_value first tick

abbrev pub is_pulse : Drive → Bool
is_pulse (Clock half) = false
is_pulse (ClockFrom half first begins_high) = false
is_pulse (Hold value) = false
is_pulse (HoldBits ones unknown) = false
is_pulse (Pulse from to) = true

-- half a clock period is at least one tick
abbrev pub IsDrive : Drive → Type 0
IsDrive (Clock half) = 0 < half
IsDrive (ClockFrom half first begins_high) = 0 < half
IsDrive _ = Unit {0}

-- ---- draws

-- the word that the generator of this seed gives after a number of others
abbrev pub word_after : ℕ → ℕ → ℕ
word_after seed others = (pcg32 (advance 64 multiplier_64 others (pcg32_of_seed (pcg32_seed 16 seed)))).0

-- at each multiple there is a round of words: the drawn input at this place takes the word at its place, and an odd word means 1;
-- where only the named inputs have values, it is X throughout
abbrev pub drawn_value : Rounds → ℕ → ℕ → Value
drawn_value rounds place tick =
    if rounds.draws.only then Unknown
    else bit (word_after rounds.draws.seed (tick / rounds.draws.every * rounds.inputs + place) % 2 == 1)

-- rounds of at most as many inputs as a netlist may have, at least one tick apart
pub record AreRounds (rounds : Rounds) : Type 0 where
  pub apart : 0 < rounds.draws.every
  pub few : rounds.inputs ≤ most_nets

-- ---- inputs

-- the signal of an input with these drives, or without any the one that is drawn at this place
abbrev pub signal_of : Rounds → List Drive → ℕ → ℕ → Value
signal_of rounds [] place = drawn_value rounds place
signal_of rounds (first ∷ others) place = drives_value first others

-- these drives give 1 in each of their pulses, and 0 elsewhere
abbrev pub GiveTheirPulses : List Drive → Type 0
GiveTheirPulses drives =
    (rounds : Rounds) (place tick : ℕ) → signal_of rounds drives place tick ≡ bit (list_any (λ drive. in_pulse drive tick) drives)
