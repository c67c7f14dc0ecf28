-- The text where no drive is faulty.
use Rattle.std.proofs.Common.{◌≡◌, ◌≢◌, ℕ, ◌∙◌, cond, List, [], Option, None, Some, Result, Ok, Err, refl, sym, ap}
use Rattle.std.specs.Option.{option_map_or}
use Rattle.std.proofs.lemmas.Bool.{ne_eqb}
use Rattle.texts.specs.Text.{unless_too_long}
use Rattle.netlist.specs.Netlist.{NetlistView}
use Rattle.drawn_stimuli.specs.declared.drive.Drive.{Drive}
use Rattle.drawn_stimuli.specs.declared.drive.Draws.{Draws}
use Rattle.drawn_stimuli.specs.declared.fault.DriveFault.{DriveFault}
use Rattle.drawn_stimuli.specs.declared.fault.DriveFault.TheVariants.{BadEvery, TooLong}
use Rattle.drawn_stimuli.specs.Inputs.{InputDriveView, InputView, drawn_count, first_fault, inputs_of}
use Rattle.drawn_stimuli.specs.Given.{DriveView, input_drives}
use Rattle.drawn_stimuli.specs.StimulusText.{lines_text, rounds_of, stimuli_text, text_or_fault}

-- drives that were all kept have no fault
pub all_kept : (found : Option DriveFault) (kept held : List (List Drive)) → Ok kept ≡ option_map_or Err found (Ok held) → (found ≡ None) × (kept ≡ held)
all_kept None kept held same = let inside : kept ≡ held = (cc) in (refl, inside)
all_kept (Some fault) kept held same = (cc)

-- then the text is that of the inputs, unless it is too long
pub text_or_fault-kept : (netlist : NetlistView) (drives : List InputDriveView) (draws : Draws) (horizon : ℕ) (inputs : List InputView) (count : ℕ) →
    first_fault netlist [] drives ≡ None → inputs ≡ inputs_of netlist drives → count ≡ drawn_count inputs →
    unless_too_long TooLong Ok (lines_text (record { draws = draws; inputs = count }) inputs horizon) ≡ text_or_fault netlist drives draws horizon
text_or_fault-kept netlist drives draws horizon inputs count sound are counted =
    ap (λ count. unless_too_long TooLong Ok (lines_text (record { draws = draws; inputs = count }) inputs horizon)) counted
    ∙ ap (λ inputs. unless_too_long TooLong Ok (lines_text (record { draws = draws; inputs = drawn_count inputs }) inputs horizon)) are
    ∙ sym (ap (λ found. option_map_or Err found text) sound)
  where
    text : Result (List ℕ) DriveFault
    text = unless_too_long TooLong Ok (lines_text (rounds_of netlist drives draws) (inputs_of netlist drives) horizon)

-- draws that are some ticks apart don't decide
pub stimuli_text-drawn : (netlist : NetlistView) (given : List DriveView) (draws : Draws) (horizon : ℕ) → draws.every ≢ 0 →
    text_or_fault netlist (input_drives netlist given) draws horizon ≡ stimuli_text netlist given draws horizon
stimuli_text-drawn netlist given draws horizon some =
    sym (ap (λ none. cond none (Err BadEvery) (text_or_fault netlist (input_drives netlist given) draws horizon)) (ne_eqb draws.every 0 some))
