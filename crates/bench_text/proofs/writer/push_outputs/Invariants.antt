use Rattle.std.proofs.Common.{◌≡◌, ℕ, List, ◌≤◌, ◌++◌, length, map, drop}
use Rattle.texts.specs.Text.{longest_text}
use Rattle.bench_text.specs.Canonical.{canonical_lines, output_statement}
use Rattle.bench_text.proofs.writer.push_outputs.Given as goal

-- the lines so far and those left are all, and the text isn't too long yet
abbrev pub invariant-loop-output : goal.invariant-loop-output
invariant-loop-output l =
    let rest = λ (outputs : List ℕ). canonical_lines (map (output_statement l.netlist) outputs) in
    (l.text.items ++ rest (drop l.output-index l.output-items) ≡ l.initial.text.items ++ rest l.output-items) × (length l.text.items ≤ longest_text)
