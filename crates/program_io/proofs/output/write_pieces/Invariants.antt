-- The texts before the next one were appended.
use Rattle.std.proofs.Common.{take}
use Rattle.std.specs.List.{concat}
use Rattle.std.specs.Io.KnownBytes.{Appends}
use Rattle.netlist.specs.Names.{seen_names}
use Rattle.program_io.proofs.output.write_pieces.Given as goal

abbrev pub invariant-loop-piece : goal.invariant-loop-piece
invariant-loop-piece g l =
    Appends (g.W.Write.contents l.initial.out) (g.W.Write.contents l.out) (concat (take l.piece-index (seen_names l.pieces)))
