use Rattle.netlist.proofs.names.Names.len.Goals as goal

pub returns-clause-well_formed : goal.returns-clause-well_formed
returns-clause-well_formed c = rw (← c.self.view_is) c.self.invariant
