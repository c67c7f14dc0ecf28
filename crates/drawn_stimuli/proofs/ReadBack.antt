-- The reader takes the text of drives and draws.
use Rattle.std.proofs.Common.{◌≡◌, ℕ, ◌==◌, ◌≤◌, nat_lt, Bool, true, false, cond, List, [], length, Option, None, Some, Ok, Err, refl, sym, ap, ◌∙◌, subst}
use Rattle.std.specs.Option.{option_map_or}
use Rattle.std.proofs.lemmas.Bool.{ltb-false}
use Rattle.texts.specs.Text.{longest_text}
use Rattle.texts.specs.Fold.{fold_text}
use Rattle.texts.proofs.CallerLemmas.{unless_too_long-short}
use Rattle.netlist.specs.Netlist.{IsNetlist, NetlistView}
use Rattle.timing_text.specs.declared.fault.StimulusFault.TheVariants as stimulus
use Rattle.timing_text.specs.Ranges.{most_ticks}
use Rattle.timing_text.specs.Stimuli.{stimuli_after, stimuli_of}
use Rattle.drawn_stimuli.specs.declared.drive.Draws.{Draws}
use Rattle.drawn_stimuli.specs.declared.fault.DriveFault.{DriveFault}
use Rattle.drawn_stimuli.specs.declared.fault.DriveFault.TheVariants.{BadEvery, TooLong}
use Rattle.drawn_stimuli.specs.Inputs.{InputDriveView, first_fault, inputs_of}
use Rattle.drawn_stimuli.specs.Given.{DriveView, input_drives}
use Rattle.drawn_stimuli.specs.StimulusText.{drawn_stimuli, stimuli_text, lines_text, rounds_of}
use Rattle.drawn_stimuli.proofs.DistinctInputs.{distinct_inputs, found_inputs}
use Rattle.drawn_stimuli.proofs.InOrder.{drawn_can, drawn_order, read_changes}

-- a text is the lines, and not too long
is_text : (netlist : NetlistView) (given : List DriveView) (draws : Draws) (horizon : ℕ) (text : List ℕ) → stimuli_text netlist given draws horizon ≡ Ok text →
    (lines_text (rounds_of netlist (input_drives netlist given) draws) (inputs_of netlist (input_drives netlist given)) horizon ≡ text) × (length text ≤ longest_text)
is_text netlist given draws horizon text same = go (draws.every == 0) (first_fault netlist [] drives) (nat_lt longest_text (length lines)) refl same
  where
    drives : List InputDriveView
    drives = input_drives netlist given

    lines : List ℕ
    lines = lines_text (rounds_of netlist drives draws) (inputs_of netlist drives) horizon

    go : (none : Bool) (fault : Option DriveFault) (long : Bool) → nat_lt longest_text (length lines) ≡ long →
        cond none (Err BadEvery) (option_map_or Err fault (cond long (Err TooLong) (Ok lines))) ≡ Ok text →
        (lines ≡ text) × (length text ≤ longest_text)
    go true fault long short same = (cc)
    go false (Some fault) long short same = (cc)
    go false None true short same = (cc)
    go false None false short same =
        let inside : lines ≡ text = (cc) in
        (inside, subst (λ text. length text ≤ longest_text) inside (ltb-false longest_text (length lines) short))

pub read_drawn : (netlist : NetlistView) (given : List DriveView) (draws : Draws) (horizon : ℕ) (text : List ℕ) → IsNetlist netlist → horizon ≤ most_ticks →
    stimuli_text netlist given draws horizon ≡ Ok text → stimuli_of netlist text ≡ Ok (drawn_stimuli netlist (input_drives netlist given) draws horizon)
read_drawn netlist given draws horizon text formed in_time same =
    let is = is_text netlist given draws horizon text same in
    let drives = input_drives netlist given in
    let rounds = rounds_of netlist drives draws in
    let inputs = inputs_of netlist drives in
    unless_too_long-short stimulus.TooLong (fold_text (stimuli_after netlist) []) text is.1
    ∙ ap (fold_text (stimuli_after netlist) []) (sym is.0)
    ∙ read_changes netlist (drawn_stimuli netlist drives draws horizon)
    (drawn_can rounds netlist inputs horizon in_time (found_inputs netlist drives formed))
    (drawn_order rounds inputs horizon (distinct_inputs netlist drives formed))
