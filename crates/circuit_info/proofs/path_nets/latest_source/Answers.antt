use Rattle.std.proofs.Common.{◌≡◌, ap, ◌∙◌}
use Rattle.netlist.specs.Netlist.{net_at}
use Rattle.circuit_info.specs.Levels.{pins_at}
use Rattle.circuit_info.proofs.Longest.{wires_are}
use Rattle.circuit_info.proofs.PathNets.{few_listed, latest_source_is}
use Rattle.circuit_info.proofs.path_nets.latest_source.Goals as goal

pub latest-requires-clause-few : goal.latest-requires-clause-few
latest-requires-clause-few c = few_listed c.args.design.now c.requires.formed c.args.ticks.now c.requires.longest

pub returns-clause-latest : goal.returns-clause-latest
returns-clause-latest c =
    let pins : c.pins_of-pins.result.now ≡ pins_at c.args.design.now.netlist c.args.net =
    c.pins_of-pins.ensures ∙ ap (λ netlist. (net_at netlist c.args.net).pins) c.netlist.ensures in
    latest_source_is c.args.design.now c.requires.formed c.args.ticks.now c.requires.longest c.args.net c.pins_of-pins.result.now c.wires_of.result.now pins
    (wires_are c.args.design.now c.requires.formed c.args.net c.wires_of.result.now c.wires_of.ensures) c.latest.result c.latest.ensures.latest
