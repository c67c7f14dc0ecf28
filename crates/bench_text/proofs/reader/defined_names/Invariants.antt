use Rattle.std.proofs.Common.{◌≡◌, ◌≤◌, length, drop}
use Rattle.std.specs.List.{filter_map}
use Rattle.bench_text.specs.NetlistOf.{definition_in, repeated_fault, unless, defined_names}
use Rattle.bench_text.specs.Stages.{seen_lines}
use Rattle.bench_text.proofs.Named.{named_from}
use Rattle.bench_text.proofs.reader.defined_names.Given as goal

-- the names so far and those of the lines left are all
abbrev pub invariant-loop-line : goal.invariant-loop-line
invariant-loop-line l =
    let definitions = filter_map definition_in (seen_lines l.lines) in
    record {
      few : length l.names ≤ l.line-index;
      names : named_from l.names (filter_map definition_in (seen_lines (drop l.line-index l.lines)))
          ≡ unless (repeated_fault definitions) (defined_names definitions);
    }
