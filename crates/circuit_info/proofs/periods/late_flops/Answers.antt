use Rattle.std.proofs.Common.{rules}
use Rattle.circuit_info.specs.Paths.{HasLoop, HasNoLoop}
use Rattle.circuit_info.proofs.LatePaths.{loop_found, loop_free}
use Rattle.circuit_info.proofs.periods.late_flops.Goals as goal

pub returns-in-Some : goal.returns-in-Some
returns-in-Some c =
    let flat : HasNoLoop c.args.design.now.netlist = search rules in
    rw (loop_free c.args.design.now.netlist flat) c.late_by_ticks.ensures

pub returns-in-None : goal.returns-in-None
returns-in-None c =
    let found : HasLoop c.args.design.now.netlist = search rules in
    rw (loop_found c.args.design.now.netlist found) c.new.ensures.items
