use Rattle.std.proofs.Common.{◌≡◌}
use Rattle.design.specs.Pins.{sources_of}
use Rattle.cmb_channels.specs.Logs.{logs_read_by}
use Rattle.cmb_channels.proofs.logs.building.read_logs.Given as goal

abbrev pub invariant-loop-net : goal.invariant-loop-net
invariant-loop-net l = l.logs.items ≡ logs_read_by l.net (sources_of l.design.circuit)
