-- The nets of the pins so far are listed.
use Rattle.std.proofs.Common.{◌≡◌, ◌<◌, All, length, take}
use Rattle.design.specs.Circuit.{pin_count}
use Rattle.design.specs.Pins.{pins_fed, sources_of}
use Rattle.fanin_cone.specs.Dependents.{nets_of_pins}
use Rattle.fanin_cone.proofs.dependents.list_fed.Given as goal

abbrev pub invariant-loop-pin : goal.invariant-loop-pin
invariant-loop-pin l = record {
  pins : l.pin-items ≡ pins_fed l.net (sources_of l.design.circuit);
  within : All (λ pin. pin < pin_count l.design.circuit) l.pin-items;
  fed : l.fed.items ≡ nets_of_pins l.design.circuit (take l.pin-index l.pin-items);
  nets : All (λ other. other < length l.design.circuit) l.fed.items;
}
