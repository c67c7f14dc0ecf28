use Rattle.std.proofs.Common.{◌≡◌, map, take}
use Rattle.design.specs.PickedDesign.{stimuli_in}
use Rattle.design.proofs.design.pick.stimuli_of.Given as goal

-- the stimuli so far
abbrev pub invariant-loop-net : goal.invariant-loop-net
invariant-loop-net l = l.stimuli ≡ map (stimuli_in l.design.circuit) (take l.net-index l.nets)
