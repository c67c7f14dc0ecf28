use Rattle.std.proofs.Common.{◌≡◌, ◌<◌, All, length, take}
use Rattle.design.specs.Pins.{sources_of}
use Rattle.cmb_channels.proofs.logs.building.pin_sources.Given as goal

abbrev pub invariant-loop-pin : goal.invariant-loop-pin
invariant-loop-pin l = record {
  sources : l.sources.items ≡ take l.pin (sources_of l.design.circuit);
  within : All (λ source. source < length l.design.circuit) l.sources.items;
}
