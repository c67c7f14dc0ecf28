use Rattle.std.proofs.Common.{◌≡◌, take}
use Rattle.logic3.specs.Summary.{summary_of}
use Rattle.gate_process.proofs.ReadOnce.{ReadSoFar, seen_at}
use Rattle.gate_process.proofs.cursor.read_at.Given as goal

abbrev pub invariant-loop-cursor : goal.invariant-loop-cursor
invariant-loop-cursor l = record {
  walked : ReadSoFar l.initial.cursors l.tick l.limit l.cursor-index l.cursors l.next;
  pins : l.pins ≡ summary_of (take l.cursor-index (seen_at l.tick l.initial.cursors));
}
