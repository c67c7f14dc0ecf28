use Rattle.std.proofs.Common.{◌<◌, length, arith}
use Rattle.std.proofs.lemmas.Bool.Decides.{nat_tests}
use Rattle.prepared_runs.proofs.Lines.{ended_lines-cut, ended_lines-uncut}
use Rattle.prepared_runs.proofs.sections.split_line.Goals as goal

pub returns-then-end-text : goal.returns-then-end-text
returns-then-end-text c = record {
  lines = rw (c.split_at.ensures.front, c.split_at.ensures.back, c.first_place-end.ensures) (ended_lines-cut c.args.text.now (omega arith));
  shorter = omega arith;
}

pub returns-else-is_empty : goal.returns-else-is_empty
returns-else-is_empty c =
    let some : 0 < length c.args.text.now = grind (arith, nat_tests) in
    record { lines = ended_lines-uncut c.args.text.now (omega arith) some; shorter = some }
