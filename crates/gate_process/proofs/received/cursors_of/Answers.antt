use Rattle.std.proofs.Common.{get_or, map, refl, ap, ◌∷◌, [], ◌++◌, ◌∙◌, arith}
use Rattle.gate_process.specs.Knowledge.{as_known}
use Rattle.gate_process.proofs.SeenPins.{waves-more, all_seen}
use Rattle.gate_process.proofs.received.cursors_of.Goals as goal

pub loop-place-preserved : goal.loop-place-preserved
loop-place-preserved c =
    c.in_ok-push.ensures.ok
    ∙ (λ i. c.loop-place.invariant i ++ c.cursor.ensures i ∷ [])
    ∙ waves-more c.args.wires.now c.args.received.now c.loop-place.place (get_or c.args.wires.now c.loop-place.place 0) c.index-received-place.result
    c.requires (omega arith) refl c.index-received-place.is

pub returns : goal.returns
returns c =
    c.loop-place.invariant
    ∙ ap (map as_known) (all_seen c.args.wires.now c.args.received.now c.loop-place.place c.requires (omega arith))
