-- The drives of single inputs that given drives are made of.
use Rattle.std.specs.Prelude.{ℕ, zero, suc, ◌+◌, ◌/◌, ◌%◌, ◌^◌, List, [], ◌∷◌, ◌++◌, length, map}
use Rattle.std.specs.Option.{option_map_or}
use Rattle.netlist.specs.Netlist.{NetlistView, net_at}
use Rattle.net_words.specs.Meant.{nets_meant}
use Rattle.drawn_stimuli.specs.declared.drive.Drive.{Drive}
use Rattle.drawn_stimuli.specs.declared.drive.Drive.TheVariants.{HoldBits}
use Rattle.drawn_stimuli.specs.declared.drive.Driven.{Driven}
use Rattle.logic3.specs.declared.value.Value.{Value}
use Rattle.drawn_stimuli.specs.Inputs.{InputDriveView}
use Rattle.drawn_stimuli.specs.Signals.{drive_value, lowest_bit}

-- a word, and what drives each input that it means
pub record DriveView : Type 0 where
  pub name : List ℕ
  pub drive : Drive

abbrev pub seen_drive : Driven → DriveView
seen_drive driven = record { name = driven.name.now; drive = driven.drive }

-- the names of the nets that a word means, or the word itself if it means none
abbrev pub names_meant : NetlistView → List ℕ → List (List ℕ)
names_meant netlist word = option_map_or (map (λ net. (net_at netlist net).name)) (nets_meant netlist word) (word ∷ [])

-- what a drive is for the first of its inputs, if this number of them come after it, and what it is for those: the first has the high
-- bits of a number, and the others its low bits; anything else is the same for each
abbrev pub first_part : Drive → ℕ → Drive
first_part (HoldBits ones unknown) after = HoldBits (ones / 2 ^ after) (unknown / 2 ^ after)
first_part drive after = drive

abbrev pub other_part : Drive → ℕ → Drive
other_part (HoldBits ones unknown) after = HoldBits (ones % 2 ^ after) (unknown % 2 ^ after)
other_part drive after = drive

-- the parts of a drive at a place, for inputs with these names
abbrev pub parts_from : ℕ → Drive → List (List ℕ) → List InputDriveView
parts_from place drive [] = []
parts_from place drive (name ∷ names) =
    record { name = name; drive = first_part drive (length names); place = place } ∷ parts_from place (other_part drive (length names)) names

-- the values of this many low bits of a number, the most significant first
abbrev pub bit_values : ℕ → ℕ → ℕ → List Value
bit_values ones unknown zero = []
bit_values ones unknown (suc count) = lowest_bit (ones / 2 ^ count) (unknown / 2 ^ count) ∷ bit_values ones unknown count

-- what inputs with these parts of drives show at a tick
abbrev pub values_at : ℕ → List InputDriveView → List Value
values_at tick parts = map (λ (part : InputDriveView). drive_value part.drive tick) parts

-- the parts of drives for a netlist; the first drive has this place
abbrev pub all_parts : NetlistView → ℕ → List DriveView → List InputDriveView
all_parts netlist place [] = []
all_parts netlist place (driven ∷ drives) =
    parts_from place driven.drive (names_meant netlist driven.name) ++ all_parts netlist (place + 1) drives

-- what the given drives are for each input
abbrev pub input_drives : NetlistView → List DriveView → List InputDriveView
input_drives netlist drives = all_parts netlist 0 drives
