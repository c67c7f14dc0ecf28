use Rattle.std.proofs.Common.{get_or, arith}
use Rattle.circuit_info.proofs.Longest.{last_more}
use Rattle.circuit_info.proofs.paths.last_seen.Goals as goal
use Rattle.circuit_info.proofs.paths.last_seen.Goals.{then-seen-last, else-seen-last}

pub loop-place-preserved : goal.loop-place-preserved
loop-place-preserved c =
    let place = c.loop-place.place in
    let more = last_more (λ net. get_or c.args.ticks.now net 0) c.args.pins.now c.args.wires.now place c.loop-place-test.true
    (omega (arith, c.loop-place-test.true, c.requires.wires)) in
    elim c.if-seen-last.branch [
      | then-seen-last w ↦ record {
        last = omega (arith, more, c.loop-place.invariant.last, w.last-is, w.if-seen-last.true, c.seen_at-seen.ensures.seen);
        few = omega (arith, w.last-is, c.seen_at-seen.ensures.few);
      }
      | else-seen-last w ↦ record {
        last = omega (arith, more, c.loop-place.invariant.last, w.last-is, w.if-seen-last.false, c.seen_at-seen.ensures.seen);
        few = omega (arith, c.loop-place.invariant.few, w.last-is);
      }
    ]
