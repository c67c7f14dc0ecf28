use Rattle.std.proofs.Common.{◌≡◌, map, drop}
use Rattle.bench_text.specs.Line.{part_in}
use Rattle.bench_text.proofs.statement.part_in.Given as goal

abbrev pub invariant-loop-keyword : goal.invariant-loop-keyword
invariant-loop-keyword l =
    part_in (map (λ entry. (entry.0.now, entry.1)) (drop l.keyword-index l.table)) l.word
    ≡ part_in (map (λ entry. (entry.0.now, entry.1)) l.table) l.word
