use Rattle.std.proofs.Common.{◌-◌, length, Some, slice_get, refl, ap, sym, ◌∙◌, arith}
use Rattle.std.proofs.lemmas.Option.{slice_get_read}
use Rattle.gate_process.proofs.Stored.{Located, located, in_outputs, in_circuit}
use Rattle.gate_process.proofs.processes.Processes.of_net.Given.{Over}
use Rattle.gate_process.proofs.processes.Processes.of_net.Goals as goal
use Rattle.gate_process.proofs.processes.Processes.of_net.Goals.{After-index}

pub pin_range-pins-requires : goal.pin_range-pins-requires
pin_range-pins-requires g c =
    in_circuit c.self.inside.design.now.circuit c.self.inside.outputs.items c.self.inside.received.items c.args.self.now c.args.net
    c.self.invariant.0 c.self.view_is c.requires

pub index-requires : goal.index-requires
index-requires g c =
    omega (arith, in_outputs c.self.inside.outputs.items c.self.inside.received.items c.args.self.now c.args.net c.self.view_is c.requires)

here : (g : Over) (c : After-index g) → Located c.self.inside.design.now.circuit c.self.inside.outputs.items c.self.inside.received.items c.args.net
    c.pin_range-pins.result.start (c.pin_range-pins.result.end - c.pin_range-pins.result.start) c.as_slice.result.now c.index.result.now
here g c =
    let below = in_outputs c.self.inside.outputs.items c.self.inside.received.items c.args.self.now c.args.net c.self.view_is c.requires in
    located c.self.inside.design.now.circuit c.self.inside.outputs.items c.self.inside.received.items c.args.net c.pin_range-pins.result.start
    c.pin_range-pins.result.end c.as_slice.result.now c.index.result.now c.self.invariant.0
    (slice_get_read c.self.inside.outputs.items (length c.self.inside.outputs.items) c.args.net c.index.result.now refl below c.index.ensures)
    c.pin_range-pins.ensures.start c.pin_range-pins.ensures.end c.as_slice.ensures.value

pub of-requires : goal.of-requires
of-requires g c = λ runs.
    c.self.invariant.0.processes c.args.net _ (here g (goal.at.of-requires g c).After-index).stands runs

pub returns : goal.returns
returns g c =
    ap (λ ps. slice_get ps c.args.net) (sym c.self.view_is) ∙ (here g (goal.at.returns g c).After-index).stands ∙ ap (λ p. Some p) (sym c.of.ensures)
