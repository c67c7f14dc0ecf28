-- Which pin of a gate decides what it shows, and since when signals show what they do.
use Rattle.std.specs.Prelude.{◌≡◌, ℕ, zero, suc, ◌+◌, ◌<◌, ◌≤◌, ◌==◌, max, if◌then◌else◌, List, [], ◌∷◌, Option, None, Some, length, slice_get, slice_index_or}
use Rattle.std.specs.List.{list_any, position_or_len}
use Rattle.std.specs.Option.{option_and_then, option_map_or}
use Rattle.logic3.specs.declared.value.Value.{Value}
use Rattle.logic3.specs.declared.value.Value.TheVariants.{Zero, One, Unknown}
use Rattle.logic3.specs.declared.change.Change.{Change}
use Rattle.logic3.specs.declared.gates.GateKind.{GateKind}
use Rattle.logic3.specs.declared.gates.GateKind.TheVariants.{And, Nand, Or, Nor, Xor, Xnor, Not, Buf}
use Rattle.logic3.specs.Value.{is_same}
use Rattle.logic3.specs.Gate.{value_of_gate}
use Rattle.logic3.specs.Wave.{changes_until}
use Rattle.design.specs.Samples.{source_tick}

-- the value of one pin that settles what a gate shows, for all values of the others
abbrev pub controlling : GateKind → Option Value
controlling And = Some Zero
controlling Nand = Some Zero
controlling Or = Some One
controlling Nor = Some One
controlling Xor = None
controlling Xnor = None
controlling Not = None
controlling Buf = None

-- a pin shows the controlling value
pub record IsControlled (kind : GateKind) (values : List Value) : Type 0 where
  pub value : Value
  pub place : ℕ
  pub controls : controlling kind ≡ Some value
  pub shown : slice_get values place ≡ Some value

-- a value that some pin shows
abbrev pub if_shown : List Value → Value → Option Value
if_shown values value = if list_any (is_same value) values then Some value else None

-- the value by which pins decide: X if the gate shows X, else the controlling one if some pin shows it
abbrev pub deciding_value : GateKind → List Value → Option Value
deciding_value kind values =
    if is_same (value_of_gate kind values) Unknown then Some Unknown
    else option_and_then (if_shown values) (controlling kind)

-- the greatest of some numbers
abbrev pub greatest : List ℕ → ℕ
greatest [] = 0
greatest (number ∷ numbers) = max number (greatest numbers)

-- the place of the first of the greatest
abbrev pub first_greatest : List ℕ → ℕ
first_greatest numbers = position_or_len (λ number. number == greatest numbers) numbers

-- the place of the pin that decides, from what the pins show and since when: the first by its value, else the first of those that
-- changed last
abbrev pub deciding_place : GateKind → List Value → List ℕ → ℕ
deciding_place kind values since =
    option_map_or (λ value. position_or_len (is_same value) values) (deciding_value kind values) (first_greatest since)

-- no number is above that at a place
abbrev pub IsGreatest : List ℕ → ℕ → Type 0
IsGreatest numbers place = (other : ℕ) → other < length numbers → slice_index_or numbers other 0 ≤ slice_index_or numbers place 0

-- the tick since which a signal shows what it shows at a tick
abbrev pub since : (ℕ → Value) → ℕ → ℕ
since signal zero = 0
since signal (suc tick) = if is_same (signal (suc tick)) (signal tick) then since signal tick else suc tick

-- the same of a pin: its source's tick plus the wire delay, and 0 before that is over
abbrev pub pin_since : ℕ → (ℕ → Value) → ℕ → ℕ
pin_since wire signal tick = option_map_or (λ at. since signal at + wire) (source_tick wire tick) 0

-- the same of the pins of these sources, each with its wire delay
abbrev pub pins_since : (ℕ → ℕ → Value) → ℕ → List ℕ → List ℕ → List ℕ
pins_since signals tick (pin ∷ pins) (wire ∷ wires) = pin_since wire (signals pin) tick ∷ pins_since signals tick pins wires
pins_since signals tick _ _ = []

-- the tick of the last of some changes, else the one before
abbrev pub tick_in_the_end : Option ℕ → List Change → Option ℕ
tick_in_the_end before [] = before
tick_in_the_end before (change ∷ changes) = tick_in_the_end (Some change.tick) changes

-- the tick of the last change that is not after a tick, if any
abbrev pub last_tick : List Change → ℕ → Option ℕ
last_tick changes tick = tick_in_the_end None (changes_until tick changes)
