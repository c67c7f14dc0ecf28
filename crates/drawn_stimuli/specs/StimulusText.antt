-- The stimulus text of drives and draws.
use Rattle.std.specs.Prelude.{ℕ, ◌+◌, ◌==◌, if◌then◌else◌, List, ◌++◌, flat_map, map, Result, Ok, Err, codes, decimal, []}
use Rattle.std.specs.List.{range_with_len}
use Rattle.std.specs.Option.{option_map_or}
use Rattle.logic3.specs.declared.change.Change.{Change}
use Rattle.logic3.specs.declared.value.Value.{Value}
use Rattle.logic3.specs.declared.value.Value.TheVariants.{Unknown}
use Rattle.logic3.specs.Value.{value_text}
use Rattle.logic3.specs.Wave.{change_at, value_after}
use Rattle.texts.specs.Text.{unless_too_long}
use Rattle.netlist.specs.Netlist.{IsNetlist, NetlistView}
use Rattle.timing_text.specs.Stimuli.{NamedChange, stimuli_named}
use Rattle.drawn_stimuli.specs.declared.drive.Draws.{Draws}
use Rattle.drawn_stimuli.specs.declared.drive.Rounds.{Rounds}
use Rattle.drawn_stimuli.specs.declared.fault.DriveFault.{DriveFault}
use Rattle.drawn_stimuli.specs.declared.fault.DriveFault.TheVariants.{BadEvery, TooLong}
use Rattle.drawn_stimuli.specs.Signals.{signal_of}
use Rattle.drawn_stimuli.specs.Inputs.{InputDriveView, InputView, drawn_count, first_fault, inputs_of}
use Rattle.drawn_stimuli.specs.Given.{DriveView, input_drives}

-- ---- the changes

-- the change of an input at a tick, if it changes there
abbrev pub input_changes : Rounds → ℕ → InputView → List NamedChange
input_changes rounds tick input =
    map (λ change. record { name = input.name; change = change }) (change_at (signal_of rounds input.drives input.place) tick)

-- the changes at a tick, in the order of inputs
abbrev pub tick_changes : Rounds → List InputView → ℕ → List NamedChange
tick_changes rounds inputs tick = flat_map (input_changes rounds tick) inputs

-- the changes at each tick up to the horizon
abbrev pub drawn_changes : Rounds → List InputView → ℕ → List NamedChange
drawn_changes rounds inputs horizon = flat_map (tick_changes rounds inputs) (range_with_len 0 (horizon + 1))

-- ---- their lines

-- `TICK NAME VALUE`
abbrev pub change_line : NamedChange → List ℕ
change_line s = decimal s.change.tick ++ codes " " ++ s.name ++ codes " " ++ value_text s.change.value ++ codes "\n"

abbrev pub input_text : Rounds → ℕ → InputView → List ℕ
input_text rounds tick input = flat_map change_line (input_changes rounds tick input)

abbrev pub tick_text : Rounds → List InputView → ℕ → List ℕ
tick_text rounds inputs tick = flat_map (input_text rounds tick) inputs

-- a line for each change
abbrev pub lines_text : Rounds → List InputView → ℕ → List ℕ
lines_text rounds inputs horizon = flat_map change_line (drawn_changes rounds inputs horizon)

-- these lines as a text, or the fault that it is too long
abbrev pub lines_or_fault : Rounds → List InputView → ℕ → Result (List ℕ) DriveFault
lines_or_fault rounds inputs horizon = unless_too_long TooLong Ok (lines_text rounds inputs horizon)

-- the rounds of the inputs that are drawn
abbrev pub rounds_of : NetlistView → List InputDriveView → Draws → Rounds
rounds_of netlist drives draws = record { draws = draws; inputs = drawn_count (inputs_of netlist drives) }

-- the value of an input at a tick
abbrev pub driven_value : NetlistView → List InputDriveView → Draws → InputView → ℕ → Value
driven_value netlist drives draws input = signal_of (rounds_of netlist drives draws) input.drives input.place

-- the changes of the inputs of a netlist that the text contains
abbrev pub drawn_stimuli : NetlistView → List InputDriveView → Draws → ℕ → List NamedChange
drawn_stimuli netlist drives draws horizon = drawn_changes (rounds_of netlist drives draws) (inputs_of netlist drives) horizon

-- the text of drives of single inputs and of draws, or the first fault
abbrev pub text_or_fault : NetlistView → List InputDriveView → Draws → ℕ → Result (List ℕ) DriveFault
text_or_fault netlist drives draws horizon =
    option_map_or Err (first_fault netlist [] drives)
    (lines_or_fault (rounds_of netlist drives draws) (inputs_of netlist drives) horizon)

-- the text of given drives and of draws, or the first fault
abbrev pub stimuli_text : NetlistView → List DriveView → Draws → ℕ → Result (List ℕ) DriveFault
stimuli_text netlist drives draws horizon =
    if draws.every == 0 then Err BadEvery else text_or_fault netlist (input_drives netlist drives) draws horizon

-- ---- its content for one input

-- drives and draws for a netlist
pub record Drawing : Type 0 where
  pub netlist : NetlistView
  pub is_netlist : IsNetlist netlist
  pub drives : List DriveView
  pub draws : Draws
  pub horizon : ℕ

-- what its drives are for each input
abbrev pub drives_drawn : Drawing → List InputDriveView
drives_drawn drawing = input_drives drawing.netlist drawing.drives

-- the inputs of the netlist
abbrev pub inputs_drawn : Drawing → List InputView
inputs_drawn drawing = inputs_of drawing.netlist (drives_drawn drawing)

-- their text
abbrev pub text_drawn : Drawing → Result (List ℕ) DriveFault
text_drawn drawing = stimuli_text drawing.netlist drawing.drives drawing.draws drawing.horizon

-- the changes that the text contains
abbrev pub stimuli_drawn : Drawing → List NamedChange
stimuli_drawn drawing = drawn_stimuli drawing.netlist (drives_drawn drawing) drawing.draws drawing.horizon

-- what a reader of stimuli finds for an input
abbrev pub changes_drawn : Drawing → InputView → List Change
changes_drawn drawing input = stimuli_named (stimuli_drawn drawing) input.name

-- what the input shows by these changes
abbrev pub value_read : Drawing → InputView → ℕ → Value
value_read drawing input tick = value_after Unknown (changes_drawn drawing input) tick

-- what the input is to show
abbrev pub value_drawn : Drawing → InputView → ℕ → Value
value_drawn drawing = driven_value drawing.netlist (drives_drawn drawing) drawing.draws
