-- The parts so far, and those for the nets to come, are all.
use Rattle.std.proofs.Common.{◌≡◌, ◌++◌, drop, map}
use Rattle.netlist.specs.Netlist.{net_at}
use Rattle.drawn_stimuli.specs.Inputs.{seen_input_drive}
use Rattle.drawn_stimuli.specs.Given.{parts_from}
use Rattle.drawn_stimuli.proofs.given.push_parts_of.Given as goal

abbrev pub invariant-loop-index : goal.invariant-loop-index
invariant-loop-index l =
    map seen_input_drive l.parts.items ++ parts_from l.place l.left (map (λ net. (net_at l.netlist net).name) (drop l.index l.nets))
    ≡ map seen_input_drive l.fn.parts.items ++ parts_from l.place l.fn.drive (map (λ net. (net_at l.netlist net).name) l.nets)
