-- The text as a line for each change, and as the lines of each tick.
use Rattle.std.proofs.Common.{◌≡◌, ℕ, ◌+◌, List, [], ◌∷◌, ◌++◌, flat_map, refl, sym, ap, ◌∙◌}
use Rattle.std.specs.List.{range_with_len}
use Rattle.std.proofs.lemmas.Grind.{flat_map-append}
use Rattle.drawn_stimuli.specs.declared.drive.Rounds.{Rounds}
use Rattle.drawn_stimuli.specs.Inputs.{InputView}
use Rattle.drawn_stimuli.specs.StimulusText.{change_line, input_changes, lines_text, tick_changes, tick_text}

-- what each part of each part gives
flat_map-flat_map : {A B C : Type 0} (h : B → List C) (g : A → List B) (xs : List A) → flat_map h (flat_map g xs) ≡ flat_map (λ x. flat_map h (g x)) xs
flat_map-flat_map h g [] = refl
flat_map-flat_map h g (x ∷ xs) =
    flat_map-append h (g x) (flat_map g xs) ∙ ap (λ rest. flat_map h (g x) ++ rest) (flat_map-flat_map h g xs)

-- the lines of the changes at these ticks are those of each tick
ticks_joined : (rounds : Rounds) (inputs : List InputView) (ticks : List ℕ) →
    flat_map change_line (flat_map (tick_changes rounds inputs) ticks) ≡ flat_map (tick_text rounds inputs) ticks
ticks_joined rounds inputs [] = refl
ticks_joined rounds inputs (tick ∷ ticks) =
    flat_map-append change_line (tick_changes rounds inputs tick) (flat_map (tick_changes rounds inputs) ticks)
    ∙ ap (λ rest. flat_map change_line (tick_changes rounds inputs tick) ++ rest) (ticks_joined rounds inputs ticks)
    ∙ ap (λ first. first ++ flat_map (tick_text rounds inputs) ticks) (flat_map-flat_map change_line (input_changes rounds tick) inputs)

pub lines_text-ticks : (rounds : Rounds) (inputs : List InputView) (horizon : ℕ) →
    flat_map (tick_text rounds inputs) (range_with_len 0 (horizon + 1)) ≡ lines_text rounds inputs horizon
lines_text-ticks rounds inputs horizon = sym (ticks_joined rounds inputs (range_with_len 0 (horizon + 1)))
