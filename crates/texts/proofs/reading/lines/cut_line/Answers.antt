use Rattle.std.proofs.Common.{◌==◌, arith}
use Rattle.std.proofs.lemmas.List.{take_rest}
use Rattle.std.proofs.lemmas.List.Splits.{slice_split_first}
use Rattle.texts.proofs.Cuts.{slice_split-uncut}
use Rattle.texts.proofs.reading.lines.cut_line.Goals as goal

pub returns-then-end-text-clause-lines : goal.returns-then-end-text-clause-lines
returns-then-end-text-clause-lines c =
    rw (take_rest, c.first_place-end.ensures) (slice_split_first (λ byte. byte == 10) c.args.text.now 0 (omega arith))

pub returns-else-end-text-clause-lines : goal.returns-else-end-text-clause-lines
returns-else-end-text-clause-lines c =
    slice_split-uncut (λ byte. byte == 10) c.args.text.now (omega arith)
