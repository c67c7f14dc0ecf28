-- Channels from nets to pins.
use Rattle.std.specs.Prelude.{◌≡◌, ℕ, suc, Bool, true, false, ◌==◌, if◌then◌else◌, List, [], ◌∷◌, length, map}
use Rattle.std.specs.List.{range_with_len}
use Rattle.design.specs.Pins.{all_fed}
use Rattle.cmb_channels.specs.declared.message.Message.{Message}

-- the messages that wait at each pin, the net that feeds each pin, and the number of nets
pub record Channels : Type 0 where
  pub lists : List (List Message)
  pub sources : List ℕ
  pub nets : ℕ

-- a pin is one of these
abbrev pub is_among : ℕ → List ℕ → Bool
is_among pin [] = false
is_among pin (first ∷ pins) = if first == pin then true else is_among pin pins

-- the net that feeds a pin, given the pins that each net feeds
abbrev pub source_in : List (List ℕ) → ℕ → ℕ
source_in [] pin = 0
source_in (pins ∷ fed) pin = if is_among pin pins then 0 else suc (source_in fed pin)

-- the net that feeds each of a number of pins
abbrev pub sources_in : List (List ℕ) → ℕ → List ℕ
sources_in fed pins = map (source_in fed) (range_with_len 0 pins)

-- each net feeds the pins whose source it is, among a number of pins
abbrev pub AreFed : List (List ℕ) → ℕ → Type 0
AreFed fed pins = fed ≡ all_fed (length fed) (sources_in fed pins)
