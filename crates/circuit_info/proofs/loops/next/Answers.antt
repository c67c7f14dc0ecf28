use Rattle.std.proofs.Common.{◌≡◌, ◌<◌, length, slice_index_or, false, sym, ap, subst, arith}
use Rattle.circuit_info.specs.Levels.{pins_at}
use Rattle.circuit_info.specs.Loops.{LeadsOn}
use Rattle.circuit_info.specs.Known.{is_known, KnownBefore}
use Rattle.circuit_info.proofs.Ways.{some_unknown, LeadsOn-first}
use Rattle.circuit_info.proofs.loops.next.Goals as goal
use Rattle.circuit_info.proofs.loops.next.Goals.{After-first_unknown-place}

-- the levels of the pins before that place are known
known : (c : After-first_unknown-place) →
    KnownBefore c.args.netlist.now c.args.levels.now (pins_at c.args.netlist.now c.args.net) c.first_unknown-place.result
known c =
    subst (λ pins. KnownBefore c.args.netlist.now c.args.levels.now pins c.first_unknown-place.result) c.pins_of-pins.ensures c.first_unknown-place.ensures.known

within : (c : After-first_unknown-place) → c.first_unknown-place.result < length (pins_at c.args.netlist.now c.args.net)
within c = some_unknown c.args.netlist.now c.args.levels.now c.requires.levels c.args.net c.first_unknown-place.result (known c) c.requires.without

pub prove-unreachable-requires : goal.prove-unreachable-requires
prove-unreachable-requires c =
    omega (arith, within (goal.at.prove-unreachable-requires c).After-first_unknown-place, ap length c.pins_of-pins.ensures, c.if-prove.true)

pub returns : goal.returns
returns c =
    let place = c.first_unknown-place.result in
    let at = (goal.at.returns c).After-first_unknown-place in
    let unknown : is_known c.args.netlist.now c.args.levels.now (slice_index_or (pins_at c.args.netlist.now c.args.net) place 0) ≡ false =
    subst (λ pins. is_known c.args.netlist.now c.args.levels.now (slice_index_or pins place 0) ≡ false) c.pins_of-pins.ensures (c.first_unknown-place.ensures.unknown c.if-prove.false) in
    subst (λ pins. LeadsOn c.args.netlist.now c.args.net (slice_index_or pins place 0)) (sym c.pins_of-pins.ensures)
    (LeadsOn-first c.args.netlist.now c.args.levels.now c.requires.levels c.args.net place (known at) (within at) unknown)
