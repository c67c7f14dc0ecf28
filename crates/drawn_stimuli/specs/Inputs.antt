-- What drives each input of a netlist, and the faults of drives.
use Rattle.std.specs.Prelude.{◌≡◌, ℕ, ◌+◌, ◌<◌, ◌==◌, ◌&&◌, nat_lt, not, All, Bool, true, false, if◌then◌else◌, List, [], ◌∷◌, ◌++◌, length, filter, map, count_by, Option, None, Some, Result, Ok, Err, MatchResult, bytes_eq}
use Rattle.std.specs.Option.{option_map_or, option_or}
use Rattle.netlist.specs.Netlist.{NetView, NetlistView, most_nets, net_at}
use Rattle.netlist.specs.Part.{is_input}
use Rattle.timing_text.specs.Words.{find_net}
use Rattle.drawn_stimuli.specs.declared.drive.Drive.{Drive}
use Rattle.drawn_stimuli.specs.declared.drive.Drive.TheVariants.{Clock, ClockFrom, Hold, HoldBits, Pulse}
use Rattle.drawn_stimuli.specs.declared.drive.InputDrive.{InputDrive}
use Rattle.drawn_stimuli.specs.declared.fault.DriveFault.{DriveFault}
use Rattle.drawn_stimuli.specs.declared.fault.DriveFault.TheVariants.{NotAnInput, Twice, BadHalf, BadPulse, TooWide}
use Rattle.drawn_stimuli.specs.declared.input.InputNet.{InputNet}
use Rattle.drawn_stimuli.specs.Signals.{IsDrive, is_pulse}

-- ---- drives

-- what drives the input with a name, and the place among the given drives of the one that this is part of
pub record InputDriveView : Type 0 where
  pub name : List ℕ
  pub drive : Drive
  pub place : ℕ

abbrev pub seen_input_drive : InputDrive → InputDriveView
seen_input_drive driven = record { name = driven.name.now; drive = driven.drive; place = driven.place }

-- the drives of the input with this name, in order
abbrev pub drives_named : List InputDriveView → List ℕ → List Drive
drives_named drives name = map (λ (driven : InputDriveView). driven.drive) (filter (λ (driven : InputDriveView). bytes_eq driven.name name) drives)

-- the drives of each net
abbrev pub drives_of_nets : List InputDriveView → List NetView → List (List Drive)
drives_of_nets drives nets = map (λ (net : NetView). drives_named drives net.name) nets

-- whether an input has this name
abbrev pub names_input : NetlistView → List ℕ → Bool
names_input netlist name = option_map_or (λ (net : NetView). is_input net.part) (find_net netlist name) false

-- the fault of a drive of one input, as a part of the given one at a place, and regardless of the others: half a clock period, and
-- a pulse, are at least one tick long, and of a number it has one bit
abbrev pub form_fault : ℕ → Drive → Option DriveFault
form_fault place (Clock half) = if half == 0 then Some (BadHalf place) else None
form_fault place (ClockFrom half first begins_high) = if half == 0 then Some (BadHalf place) else None
form_fault place (Hold value) = None
form_fault place (HoldBits ones unknown) = if nat_lt ones 2 && nat_lt unknown 2 then None else Some (TooWide place)
form_fault place (Pulse from to) = if nat_lt from to then None else Some (BadPulse place)

-- whether an input that has these drives may have this one too: a pulse may follow pulses
abbrev pub can_follow : List Drive → Drive → Bool
can_follow [] drive = true
can_follow (first ∷ others) drive = is_pulse first && is_pulse drive

-- the fault of a drive that comes after these earlier ones, if any
abbrev pub fault_behind : NetlistView → List InputDriveView → InputDriveView → Option DriveFault
fault_behind netlist earlier driven =
    if not (names_input netlist driven.name) then Some (NotAnInput driven.place)
    else if not (can_follow (drives_named earlier driven.name) driven.drive) then Some (Twice driven.place)
    else form_fault driven.place driven.drive

-- the first fault of drives that come after these earlier ones
abbrev pub first_fault : NetlistView → List InputDriveView → List InputDriveView → Option DriveFault
first_fault netlist earlier [] = None
first_fault netlist earlier (driven ∷ drives) =
    option_or (fault_behind netlist earlier driven) (first_fault netlist (earlier ++ driven ∷ []) drives)

-- the result is this fault, or a value if there is none
abbrev pub FailsBy : {A : Type 0} → Option DriveFault → Result A DriveFault → Type 0
FailsBy fault result = MatchResult result (λ _. fault ≡ None) (λ other. fault ≡ Some other)

-- the drives of each net, or the first fault
abbrev pub drives_or_fault : NetlistView → List InputDriveView → Result (List (List Drive)) DriveFault
drives_or_fault netlist drives = option_map_or Err (first_fault netlist [] drives) (Ok (drives_of_nets drives netlist.nets))

-- this holds of any drives that give the nets of a netlist these
abbrev pub ForGiven : NetlistView → List (List Drive) → (List InputDriveView → Type 0) → Type 0
ForGiven netlist kept P = (given : List InputDriveView) → kept ≡ drives_of_nets given netlist.nets → P given

-- this holds of each of some drives, where none of them is faulty
abbrev pub ForAccepted : (List InputDriveView → InputDriveView → Type 0) → Type 0
ForAccepted P = (netlist : NetlistView) (drives : List InputDriveView) → first_fault netlist [] drives ≡ None → All (P drives) drives

-- ---- inputs

-- an input: its name, its drives, and the number of inputs before it that are drawn
pub record InputView : Type 0 where
  pub name : List ℕ
  pub drives : List Drive
  pub place : ℕ

-- an input that no drive names is drawn
abbrev pub is_drawn : List Drive → Bool
is_drawn [] = true
is_drawn (first ∷ others) = false

-- the place after that of an input with these drives
abbrev pub next_place : ℕ → List Drive → ℕ
next_place place drives = if is_drawn drives then place + 1 else place

-- the inputs among nets with their drives, in order; the first has this place
abbrev pub inputs_from : List InputDriveView → ℕ → List NetView → List InputView
inputs_from drives place [] = []
inputs_from drives place (net ∷ nets) =
    let own = drives_named drives net.name in
    if not (is_input net.part) then inputs_from drives place nets
    else record { name = net.name; drives = own; place = place } ∷ inputs_from drives (next_place place own) nets

-- the names of the inputs of a netlist, in order
abbrev pub input_names : NetlistView → List (List ℕ)
input_names netlist = map (λ (net : NetView). net.name) (filter (λ (net : NetView). is_input net.part) netlist.nets)

-- the inputs of a netlist, in order
abbrev pub inputs_of : NetlistView → List InputDriveView → List InputView
inputs_of netlist drives = inputs_from drives 0 netlist.nets

-- the number of them that are drawn
abbrev pub drawn_count : List InputView → ℕ
drawn_count inputs = count_by (λ (input : InputView). is_drawn input.drives) inputs

-- ---- inputs by net number

abbrev pub seen_input : NetlistView → InputNet → InputView
seen_input netlist input = record { name = (net_at netlist input.net).name; drives = input.drives.now; place = input.place }

-- the net exists, and so do the drives and the place
pub record IsInputNet (netlist : NetlistView) (input : InputNet) : Type 0 where
  pub within : input.net < length netlist.nets
  pub drives : All IsDrive input.drives.now
  pub place : input.place < most_nets
