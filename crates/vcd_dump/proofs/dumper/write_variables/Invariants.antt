-- What went out, what waits and the declarations to come are the whole.
use Rattle.std.proofs.Common.{◌++◌, length}
use Rattle.vcd_dump.specs.Dump.{declaration}
use Rattle.texts.specs.Written.{GoesOut}
use Rattle.vcd_dump.proofs.Between.{between}
use Rattle.vcd_dump.proofs.Variables.{named_at}
use Rattle.vcd_dump.proofs.dumper.write_variables.Given as goal

abbrev pub invariant-loop-place : goal.invariant-loop-place
invariant-loop-place g l =
    GoesOut (g.W.Write.contents l.initial.out) (g.W.Write.contents l.out)
    (l.initial.text.items ++ between (λ place. declaration (named_at l.design.circuit l.shown place)) 0 (length l.shown))
    (l.text.items ++ between (λ place. declaration (named_at l.design.circuit l.shown place)) l.place (length l.shown))
