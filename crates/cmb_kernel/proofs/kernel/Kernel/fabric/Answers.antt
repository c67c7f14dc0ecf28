use Rattle.cmb_kernel.proofs.kernel.Kernel.fabric.Goals as goal

pub returns-clause-pins : goal.returns-clause-pins
returns-clause-pins g c = rw (← c.self.view_is) (λ running. (c.self.invariant running).sound.lists)

pub returns-clause-sources : goal.returns-clause-sources
returns-clause-sources g c = rw (← c.self.view_is) (λ running. (c.self.invariant running).feeds)

pub returns-clause-nets : goal.returns-clause-nets
returns-clause-nets g c = rw (← c.self.view_is) (λ running. (c.self.invariant running).all_nets)
