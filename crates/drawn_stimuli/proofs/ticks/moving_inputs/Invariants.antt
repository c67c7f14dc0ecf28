-- The moving inputs so far, and then those among the inputs left, are all.
use Rattle.std.proofs.Common.{◌≡◌, ◌++◌, drop, filter}
use Rattle.drawn_stimuli.specs.declared.input.InputNet.{InputNet}
use Rattle.drawn_stimuli.specs.Ticks.{is_moving}
use Rattle.drawn_stimuli.proofs.ticks.moving_inputs.Given as goal

abbrev pub invariant-loop-input : goal.invariant-loop-input
invariant-loop-input l =
    l.moving.items ++ filter (λ (input : InputNet). is_moving input.drives.now) (drop l.input-index l.inputs)
    ≡ filter (λ (input : InputNet). is_moving input.drives.now) l.inputs
