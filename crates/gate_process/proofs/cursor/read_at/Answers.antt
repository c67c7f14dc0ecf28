use Rattle.std.proofs.Common.{ap, get_or, take, ◌∙◌, arith}
use Rattle.logic3.specs.Summary.{summary_of}
use Rattle.gate_process.proofs.ReadOnce.{read_more, seen_at, value_more}
use Rattle.gate_process.proofs.cursor.read_at.Goals as goal

pub loop-cursor-preserved : goal.loop-cursor-preserved
loop-cursor-preserved c =
    let so_far = c.loop-cursor.invariant.walked in
    let next = c.next_change-next.ensures in
    let here = ap (λ wave. get_or c.loop-cursor.cursors c.loop-cursor.cursor-index wave) c.cursor-item.is in
    record {
      walked = read_more c.args.cursors.now c.args.tick c.args.limit c.loop-cursor.cursor-index c.loop-cursor.cursors
          c.loop-cursor.next so_far (get_or c.loop-cursor.cursors c.loop-cursor.cursor-index c.cursor-item.result) c.go_to.new.self
          c.next_change-next.result (omega arith) here
          c.go_to.ensures.left next.steady (next.later c.args.tick so_far.later c.go_to.ensures.passed) next.within;
      pins = c.add.ensures (take c.loop-cursor.cursor-index (seen_at c.args.tick c.args.cursors.now)) c.loop-cursor.invariant.pins
          ∙ ap summary_of (value_more c.args.cursors.now c.args.tick c.args.limit c.loop-cursor.cursor-index c.loop-cursor.cursors
          c.loop-cursor.next so_far (get_or c.loop-cursor.cursors c.loop-cursor.cursor-index c.cursor-item.result)
          (omega arith) here c.go_to.result c.go_to.ensures.value);
    }
