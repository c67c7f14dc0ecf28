-- The parts so far, and those of the drives to come, are all.
use Rattle.std.proofs.Common.{◌≡◌, ◌++◌, drop, map}
use Rattle.drawn_stimuli.specs.Inputs.{seen_input_drive}
use Rattle.drawn_stimuli.specs.Given.{all_parts, input_drives, seen_drive}
use Rattle.drawn_stimuli.proofs.given.input_drives.Given as goal

abbrev pub invariant-loop-place : goal.invariant-loop-place
invariant-loop-place l =
    map seen_input_drive l.parts.items ++ all_parts l.netlist l.place (map seen_drive (drop l.place l.drives)) ≡ input_drives l.netlist (map seen_drive l.drives)
