-- Earlier drives are kept, and each is one.
use Rattle.std.proofs.Common.{All, drop, map}
use Rattle.drawn_stimuli.specs.Signals.{IsDrive}
use Rattle.drawn_stimuli.specs.Inputs.{seen_input_drive}
use Rattle.drawn_stimuli.proofs.KeptDrives.{Kept}
use Rattle.drawn_stimuli.proofs.input.drives_by_net.Given as goal

abbrev pub invariant-loop-driven : goal.invariant-loop-driven
invariant-loop-driven l =
    Kept l.netlist (map seen_input_drive l.drives) (map seen_input_drive (drop l.driven-index l.drives)) (map (λ drives. drives.items) l.kept.items)
    × All (All IsDrive) (map (λ drives. drives.items) l.kept.items)
