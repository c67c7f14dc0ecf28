use Rattle.netlist.proofs.Joined.{stored-within, name-stored}
use Rattle.netlist.proofs.netlist.Netlist.name.Goals as goal

pub name-requires : goal.name-requires
name-requires c = stored-within _ _ c.self.invariant.joined.same_length c.args.self.now _ c.self.view_is c.args.net c.requires

pub returns : goal.returns
returns c = name-stored _ _ c.self.invariant.joined.same_length c.args.self.now _ c.self.view_is c.args.net _ c.requires c.name.ensures
