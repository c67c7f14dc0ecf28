use Rattle.std.proofs.Common.{◌∙◌}
use Rattle.design.proofs.Joined.{net_named-circuit}
use Rattle.design.proofs.design.Design.find.Goals as goal

pub returns-clause-net : goal.returns-clause-net
returns-clause-net c =
    rw (← c.self.view_is) (c.find.ensures ∙ net_named-circuit _ c.self.invariant.joined.well_formed c.args.name.now)
