use Rattle.std.proofs.Common.{Contains, subst}
use Rattle.circuit_info.specs.declared.path_lines.End.{End}
use Rattle.circuit_info.specs.PathText.{ends}
use Rattle.circuit_info.proofs.PathLengths.{flop_pins}
use Rattle.circuit_info.proofs.PathTexts.{end_below, end_flop}
use Rattle.circuit_info.proofs.path_nets.path_to_end.Goals as goal

pub latest_source-source-requires-clause-net : goal.latest_source-source-requires-clause-net
latest_source-source-requires-clause-net c = end_below c.args.design.now c.requires.formed c.args.end c.args.net c.requires.net

pub latest_source-source-requires-clause-pins : goal.latest_source-source-requires-clause-pins
latest_source-source-requires-clause-pins c =
    flop_pins c.args.design.now c.requires.formed c.args.net (end_below c.args.design.now c.requires.formed c.args.end c.args.net c.requires.net)
    (end_flop c.args.design.now.netlist c.args.net (subst (λ (end : End). Contains (ends c.args.design.now.netlist end) c.args.net) c.in-Flop.is c.requires.net))
