-- The inputs so far, and then those among the nets left, are all; those so far are no more than the nets before.
use Rattle.std.proofs.Common.{◌≡◌, ◌≤◌, ◌++◌, List, length, All, drop, map}
use Rattle.drawn_stimuli.specs.Inputs.{InputDriveView, IsInputNet, drives_of_nets, inputs_from, inputs_of, seen_input}
use Rattle.drawn_stimuli.proofs.input.inputs_of.Given as goal

abbrev pub invariant-loop-net : goal.invariant-loop-net
invariant-loop-net l =
    ((given : List InputDriveView) → map (λ drives. drives.items) l.drives ≡ drives_of_nets given l.netlist.nets →
    map (seen_input l.netlist) l.inputs.items ++ inputs_from given l.drawn (drop l.net l.netlist.nets) ≡ inputs_of l.netlist given)
    × All (IsInputNet l.netlist) l.inputs.items
    × (l.drawn ≤ l.net)
    × (length l.inputs.items ≤ l.net)
