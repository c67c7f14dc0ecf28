-- The longest name so far or to come is the longest.
use Rattle.std.proofs.Common.{◌≡◌, max, drop}
use Rattle.vcd_dump.specs.Traces.{traces}
use Rattle.timing_diagram.specs.Picture.{widest}
use Rattle.timing_diagram.proofs.text.widest.Given as goal

abbrev pub invariant-loop-net : goal.invariant-loop-net
invariant-loop-net l =
    max l.width (widest (traces l.design.circuit (drop l.net-index l.shown) (drop l.net-index l.waves))) ≡ widest (traces l.design.circuit l.shown l.waves)
