use Rattle.std.proofs.Common.{◌≡◌}
use Rattle.texts.specs.Fold.{fold_lines, one_a_line}
use Rattle.bench_text.specs.NetlistOf.{numbered_statement, statements_of}
use Rattle.bench_text.specs.Stages.{seen_lines}
use Rattle.bench_text.proofs.reader.statements.Given as goal

-- the lines left, after what those so far say, say all
abbrev pub invariant-loop-line : goal.invariant-loop-line
invariant-loop-line l = fold_lines (one_a_line numbered_statement) (seen_lines l.lines.items) l.line-iterator ≡ statements_of l.text
