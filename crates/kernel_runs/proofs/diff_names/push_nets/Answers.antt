use Rattle.netlist.specs.Names.{seen_names}
use Rattle.netlist.specs.Netlist.{name_at}
use Rattle.kernel_runs.proofs.DiffNames.{names_more}
use Rattle.kernel_runs.proofs.diff_names.push_nets.Goals as goal

pub loop-net-preserved : goal.loop-net-preserved
loop-net-preserved c =
    names_more (name_at c.args.netlist.now) c.loop-net.net (seen_names c.args.names.now.items) c.loop-net.names.items c.push.new.self.items c.name.result
    c.in_ok-push.ensures.items c.name.ensures c.loop-net.invariant
