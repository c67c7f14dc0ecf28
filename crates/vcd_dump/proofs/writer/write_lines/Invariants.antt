-- What went out, what waits and the lines to come are the whole, and the last of these is the last of all.
use Rattle.std.proofs.Common.{◌≡◌, ◌++◌, drop}
use Rattle.texts.specs.Written.{GoesOut}
use Rattle.vcd_dump.specs.Written.{written_text, last_tick}
use Rattle.vcd_dump.proofs.writer.write_lines.Given as goal

abbrev pub invariant-loop-line : goal.invariant-loop-line
invariant-loop-line g l = record {
  last : last_tick l.before (drop l.line-index l.lines) ≡ last_tick l.time l.lines;
  text : GoesOut (g.W.Write.contents l.initial.out) (g.W.Write.contents l.out)
      (l.initial.text.items ++ written_text l.time l.lines) (l.text.items ++ written_text l.before (drop l.line-index l.lines));
}
