use Rattle.std.proofs.Common.{List, subst, ℕ}
use Rattle.netlist.specs.Netlist.{NetlistView}
use Rattle.circuit_info.specs.Levels.{IsGateLoop}
use Rattle.circuit_info.specs.Loops.{IsDepths}
use Rattle.circuit_info.proofs.NamedLoops.{IsGateLoop-named}
use Rattle.circuit_info.proofs.paths.longest_paths.Goals as goal

pub returns-clause-none : goal.returns-clause-none
returns-clause-none c =
    let named = subst (IsDepths c.netlist.result.now) c.in-Loop.is c.in_ok-levels.ensures.depths in
    subst (λ (netlist : NetlistView). (nets : List ℕ) × IsGateLoop netlist nets) c.netlist.ensures
    (c.in-Loop.field-0.items, IsGateLoop-named c.netlist.result.now c.in-Loop.field-0.items named)
