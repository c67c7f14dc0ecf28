use Rattle.std.proofs.Common.{get_or, take, refl, ap, ◌∷◌, [], ◌++◌, ◌∙◌, arith}
use Rattle.logic3.specs.Summary.{summary_of}
use Rattle.logic3.specs.Wave.{Wave, value_at}
use Rattle.design.specs.Equations.{values_at}
use Rattle.gate_process.specs.Knowledge.{seen_pins}
use Rattle.gate_process.specs.Step.{signals_of}
use Rattle.gate_process.proofs.SeenPins.{values-more, all_seen}
use Rattle.gate_process.proofs.received.seen_at.Goals as goal

pub loop-place-preserved : goal.loop-place-preserved
loop-place-preserved c =
    let so_far = values_at c.args.tick (signals_of (take c.loop-place.place (seen_pins c.args.wires.now c.args.received.now))) in
    c.add.ensures so_far c.loop-place.invariant
    ∙ ap (λ value. summary_of (so_far ++ value ∷ [])) (c.go_to.ensures.value ∙ ap (λ (wave : Wave). value_at wave c.args.tick) c.cursor.ensures)
    ∙ ap summary_of (values-more c.args.wires.now c.args.received.now c.loop-place.place (get_or c.args.wires.now c.loop-place.place 0) c.args.tick
    c.index-received-place.result c.requires (omega arith) refl c.index-received-place.is)

pub returns : goal.returns
returns c =
    c.loop-place.invariant
    ∙ ap (λ seen. summary_of (values_at c.args.tick (signals_of seen)))
    (all_seen c.args.wires.now c.args.received.now c.loop-place.place c.requires (omega arith))
