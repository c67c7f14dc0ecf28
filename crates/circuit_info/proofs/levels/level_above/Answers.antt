use Rattle.std.proofs.Common.{get_or, arith}
use Rattle.circuit_info.specs.Levels.{level_at}
use Rattle.circuit_info.proofs.Tops.{greatest_map_more}
use Rattle.circuit_info.proofs.levels.level_above.Goals as goal
use Rattle.circuit_info.proofs.levels.level_above.Goals.{then-level-top, else-level-top}

pub loop-pin-preserved : goal.loop-pin-preserved
loop-pin-preserved c =
    let more = greatest_map_more (level_at c.args.levels.now) c.args.pins.now c.loop-pin.pin-index c.loop-pin-test.true in
    let few = c.requires.few (get_or c.args.pins.now c.loop-pin.pin-index 0) in
    elim c.if-level-top.branch [
      | then-level-top w ↦ record {
        top = omega (arith, more, c.loop-pin.invariant.top, w.top-is, w.if-level-top.true);
        few = omega (arith, few, w.top-is);
      }
      | else-level-top w ↦ record {
        top = omega (arith, more, c.loop-pin.invariant.top, w.top-is, w.if-level-top.false);
        few = omega (arith, c.loop-pin.invariant.few, w.top-is);
      }
    ]
