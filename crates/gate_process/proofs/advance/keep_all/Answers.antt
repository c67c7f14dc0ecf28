use Rattle.std.proofs.Common.{◌≡◌, ◌-◌, slice_index_or, ap, sym, ◌∙◌}
use Rattle.gate_process.specs.Knowledge.{keeping}
use Rattle.gate_process.specs.Step.{oldest_asked}
use Rattle.gate_process.proofs.Kept.{kept-more}
use Rattle.gate_process.proofs.advance.keep_all.Goals as goal

pub loop-place-preserved : goal.loop-place-preserved
loop-place-preserved c =
    let oldest : c.oldest_asked.result ≡ oldest_asked c.args.net.now c.loop-place.place c.args.frontier =
    c.oldest_asked.ensures
    ∙ ap (λ wires. c.args.frontier - c.args.net.now.timing.delay - slice_index_or wires c.loop-place.place 0) c.wires-wires.ensures.wires in
    kept-more c.args.net.now c.args.frontier c.args.received.now c.loop-place.place c.loop-place.received c.index-received-place.result c.keep.new.self
    c.loop-place.invariant c.loop-place-test.true c.index-received-place.is
    (c.keep.ensures ∙ ap (λ tick. keeping tick (slice_index_or c.loop-place.received c.loop-place.place c.index-received-place.result)) oldest
    ∙ ap (keeping (oldest_asked c.args.net.now c.loop-place.place c.args.frontier)) (sym c.index-received-place.is))
