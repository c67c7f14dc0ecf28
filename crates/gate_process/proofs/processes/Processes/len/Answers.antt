use Rattle.std.proofs.Common.{length, ap, arith}
use Rattle.gate_process.proofs.Stored.{length-processes_of}
use Rattle.gate_process.proofs.processes.Processes.len.Goals as goal

pub returns : goal.returns
returns g c =
    omega (arith, c.len.ensures, length-processes_of c.self.inside.outputs.items c.self.inside.received.items, ap length c.self.view_is)
