use Rattle.std.proofs.Common.{sym, arith}
use Rattle.std.proofs.lemmas.List.{length-map}
use Rattle.bench_text.specs.Stages.{seen_line, seen_lines}
use Rattle.bench_text.proofs.LinesLeft.{IsStatement-statements_of, length-statements_of}
use Rattle.bench_text.proofs.reader.read.Goals as goal

pub netlist-requires-clause-few : goal.netlist-requires-clause-few
netlist-requires-clause-few c =
    let said = sym (c.in_ok-lines.ensures (λ e. cc)) in
    omega (arith, c.as_slice.ensures.len, length-statements_of c.args.text.now (seen_lines c.in_ok-lines.lines.items) said, length-map c.in_ok-lines.lines.items seen_line)

pub netlist-requires-clause-well_formed : goal.netlist-requires-clause-well_formed
netlist-requires-clause-well_formed c =
    let said = sym (c.in_ok-lines.ensures (λ e. cc)) in
    rw c.as_slice.ensures.value (IsStatement-statements_of c.args.text.now (seen_lines c.in_ok-lines.lines.items) said)
