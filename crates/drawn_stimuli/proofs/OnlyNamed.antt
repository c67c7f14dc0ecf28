-- Where only the named inputs have values, the others have no changes.
use Rattle.std.proofs.Common.{◌≡◌, ℕ, zero, suc, ◌+◌, ◌-◌, ◌*◌, ◌/◌, ◌%◌, ◌==◌, true, cond, List, [], ◌∷◌, ◌++◌, flat_map, get_or, All, refl, ap, ◌∙◌}
use Rattle.std.specs.List.{range_with_len}
use Rattle.logic3.specs.declared.value.Value.{Value}
use Rattle.logic3.specs.declared.value.Value.TheVariants.{Unknown}
use Rattle.logic3.specs.Value.{is_same}
use Rattle.logic3.specs.Wave.{change_at, value_before}
use Rattle.drawn_stimuli.specs.declared.drive.Drive.{Drive}
use Rattle.drawn_stimuli.specs.declared.drive.Rounds.{Rounds}
use Rattle.drawn_stimuli.specs.Signals.{bit, signal_of, word_after}
use Rattle.drawn_stimuli.specs.Inputs.{InputView, is_drawn}
use Rattle.drawn_stimuli.specs.StimulusText.{Drawing, changes_drawn, drives_drawn, inputs_drawn, rounds_of, value_drawn}
use Rattle.drawn_stimuli.proofs.DistinctInputs.{distinct_inputs}
use Rattle.drawn_stimuli.proofs.InOrder.{drawn_named}

-- a signal that is X throughout never changes
module _ (signal : ℕ → Value) (is : (tick : ℕ) → signal tick ≡ Unknown) where
  before_is : (tick : ℕ) → value_before signal tick ≡ Unknown
  before_is zero = refl
  before_is (suc tick) = is tick

  no_change : (tick : ℕ) → change_at signal tick ≡ []
  no_change tick =
      ap (λ same. cond same [] (record { tick = tick; value = signal tick } ∷ []))
      (ap (λ value. is_same value (value_before signal tick)) (is tick) ∙ ap (is_same Unknown) (before_is tick))

  no_changes : (ticks : List ℕ) → flat_map (change_at signal) ticks ≡ []
  no_changes [] = refl
  no_changes (tick ∷ ticks) = ap (λ first. first ++ flat_map (change_at signal) ticks) (no_change tick) ∙ no_changes ticks

-- an input without drives is X there
drawn_is : (rounds : Rounds) (drives : List Drive) (place : ℕ) → rounds.draws.only ≡ true → is_drawn drives ≡ true → (tick : ℕ) →
    signal_of rounds drives place tick ≡ Unknown
drawn_is rounds [] place only drawn tick =
    ap (λ only. cond only Unknown (bit (word_after rounds.draws.seed (tick / rounds.draws.every * rounds.inputs + place) % 2 == 1))) only
drawn_is rounds (first ∷ others) place only drawn tick = (cc)

pub only_named : (drawing : Drawing) → drawing.draws.only ≡ true →
    All (λ (input : InputView). is_drawn input.drives ≡ true → changes_drawn drawing input ≡ []) (inputs_drawn drawing)
only_named drawing only = λ k d within drawn.
    let rounds = rounds_of drawing.netlist (drives_drawn drawing) drawing.draws in
    let input = get_or (inputs_drawn drawing) k d in
    drawn_named rounds (inputs_drawn drawing) drawing.horizon (distinct_inputs drawing.netlist (drives_drawn drawing) drawing.is_netlist) k d within
    ∙ no_changes (value_drawn drawing input) (drawn_is rounds input.drives input.place only drawn) (range_with_len 0 (drawing.horizon + 1 - 0))
