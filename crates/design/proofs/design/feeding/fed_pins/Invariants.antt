use Rattle.std.proofs.Common.{◌≡◌, map, take}
use Rattle.design.specs.Pins.{all_fed}
use Rattle.design.proofs.design.feeding.fed_pins.Given as goal

abbrev pub invariant-loop-pin : goal.invariant-loop-pin
invariant-loop-pin l = map (λ v. v.items) l.fed.items ≡ all_fed l.nets (take l.pin l.sources)
