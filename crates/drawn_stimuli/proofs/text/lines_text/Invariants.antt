-- The lines so far, and then those of the ticks left, are all.
use Rattle.std.proofs.Common.{◌≡◌, ◌≤◌, ◌+◌, ◌-◌, ◌++◌, length, flat_map, map}
use Rattle.std.specs.List.{range_with_len}
use Rattle.texts.specs.Text.{longest_text}
use Rattle.drawn_stimuli.specs.Inputs.{seen_input}
use Rattle.drawn_stimuli.specs.StimulusText.{tick_text}
use Rattle.drawn_stimuli.proofs.text.lines_text.Given as goal

abbrev pub invariant-loop-tick : goal.invariant-loop-tick
invariant-loop-tick l =
    (l.text.items ++ flat_map (tick_text l.rounds (map (seen_input l.netlist) l.inputs)) (range_with_len l.tick (l.horizon + 1 - l.tick))
    ≡ flat_map (tick_text l.rounds (map (seen_input l.netlist) l.inputs)) (range_with_len 0 (l.horizon + 1)))
    × (length l.text.items ≤ longest_text)

abbrev pub decreases-loop-tick : goal.decreases-loop-tick
decreases-loop-tick l = l.horizon + 1 - l.tick
