use Rattle.std.proofs.Common.{◌≡◌}
use Rattle.design.specs.Pins.{sources_of, all_fed}
use Rattle.cmb_channels.proofs.fed_pins.fed_pins.Given as goal

abbrev pub invariant-loop-net : goal.invariant-loop-net
invariant-loop-net l = l.fed ≡ all_fed l.net (sources_of l.design.circuit)
