use Rattle.std.proofs.Common.{◌≡◌, take}
use Rattle.design.specs.Equations.{signals_in}
use Rattle.causes.specs.Deciding.{pins_since}
use Rattle.causes.proofs.pins.pins_since.Given as goal

abbrev pub invariant-loop-place : goal.invariant-loop-place
invariant-loop-place l = l.ticks.items ≡ take l.place (pins_since (signals_in l.waves) l.tick l.pins l.wires)
