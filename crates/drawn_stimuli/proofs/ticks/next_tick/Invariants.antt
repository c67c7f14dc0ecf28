-- The first tick so far, and then those of the inputs left, give that of all.
use Rattle.std.proofs.Common.{◌≡◌, ℕ, drop, min}
use Rattle.std.specs.List.{fold}
use Rattle.drawn_stimuli.specs.declared.input.InputNet.{InputNet}
use Rattle.drawn_stimuli.specs.Ticks.{next_of, next_tick}
use Rattle.drawn_stimuli.proofs.ticks.next_tick.Given as goal

abbrev pub invariant-loop-input : goal.invariant-loop-input
invariant-loop-input l =
    fold (λ (next : ℕ) (input : InputNet). min next (next_of input.drives.now l.tick)) l.next (drop l.input-index l.inputs)
    ≡ next_tick l.every l.inputs l.tick
