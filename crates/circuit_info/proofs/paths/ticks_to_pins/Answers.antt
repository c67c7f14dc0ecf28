use Rattle.std.proofs.Common.{◌∙◌, get_or, refl}
use Rattle.netlist.proofs.CallerLemmas.{pins_within}
use Rattle.circuit_info.specs.Levels.{pins_at}
use Rattle.circuit_info.specs.Paths.{longest_to, wires_at}
use Rattle.circuit_info.proofs.Longest.{last_alike}
use Rattle.circuit_info.proofs.PathNets.{few_listed}
use Rattle.circuit_info.proofs.paths.ticks_to_pins.Goals as goal

pub pin_ticks-requires-clause-few : goal.pin_ticks-requires-clause-few
pin_ticks-requires-clause-few c = few_listed c.args.design.now c.requires.formed c.args.ticks.now c.requires.longest

pub returns : goal.returns
returns c =
    let pins = pins_at c.args.design.now.netlist c.args.net in
    c.pin_ticks.ensures.last
    ∙ last_alike (λ net. get_or c.args.ticks.now net 0) (longest_to c.args.design.now) pins (wires_at c.args.design.now c.args.net)
    (λ k within. c.requires.longest.each (get_or pins k 0) (pins_within c.args.design.now.netlist c.requires.formed.netlist c.args.net pins refl k 0 within))
