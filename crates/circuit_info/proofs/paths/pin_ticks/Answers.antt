use Rattle.std.proofs.Common.{◌≡◌, ◌≤◌, slice_index_or, All, sym, ap, subst, ◌∙◌}
use Rattle.netlist.specs.Netlist.{net_at}
use Rattle.netlist.proofs.CallerLemmas.{pins_within}
use Rattle.circuit_info.specs.Levels.{pins_at}
use Rattle.circuit_info.specs.Paths.{last_seen}
use Rattle.circuit_info.proofs.Longest.{wires_are, wires_fit, wires_short}
use Rattle.circuit_info.proofs.paths.pin_ticks.Goals as goal

pub pins_of-requires : goal.pins_of-requires
pins_of-requires c = rw c.netlist.ensures c.requires.net

pub last_seen-requires-clause-pins : goal.last_seen-requires-clause-pins
last_seen-requires-clause-pins c =
    rw c.requires.size (pins_within c.args.design.now.netlist c.requires.formed.netlist c.args.net c.pins_of.result.now
    (c.pins_of.ensures ∙ ap (λ netlist. (net_at netlist c.args.net).pins) c.netlist.ensures))

pub last_seen-requires-clause-wires : goal.last_seen-requires-clause-wires
last_seen-requires-clause-wires c =
    rw (c.pins_of.ensures, c.netlist.ensures) (wires_fit c.args.design.now c.requires.formed c.args.net c.wires_of.result.now c.wires_of.ensures)

pub last_seen-requires-clause-short : goal.last_seen-requires-clause-short
last_seen-requires-clause-short c =
    subst (All (λ wire. wire ≤ 1_000_000)) (sym (wires_are c.args.design.now c.requires.formed c.args.net c.wires_of.result.now c.wires_of.ensures))
    (wires_short c.args.design.now c.requires.formed c.args.net)

pub returns-clause-last : goal.returns-clause-last
returns-clause-last c =
    let pins : c.pins_of.result.now ≡ pins_at c.args.design.now.netlist c.args.net =
    c.pins_of.ensures ∙ ap (λ netlist. (net_at netlist c.args.net).pins) c.netlist.ensures in
    let wires = wires_are c.args.design.now c.requires.formed c.args.net c.wires_of.result.now c.wires_of.ensures in
    c.last_seen.ensures.last ∙ (λ i. last_seen (λ net. slice_index_or c.args.ticks.now net 0) (pins i) (wires i))
