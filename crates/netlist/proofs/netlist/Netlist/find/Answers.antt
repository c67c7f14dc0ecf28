use Rattle.std.proofs.Common.{◌∙◌, sym}
use Rattle.netlist.proofs.Joined.{net_named-netlist_view}
use Rattle.netlist.proofs.netlist.Netlist.find.Goals as goal

pub returns : goal.returns
returns c =
    rw (← c.self.view_is)
    (c.find.ensures ∙ sym (net_named-netlist_view _ _ c.self.invariant.joined.same_length c.self.inside.outputs.items c.args.name.now))
