-- The text so far is the lines of the tables so far.
use Rattle.std.proofs.Common.{◌≡◌, flat_map, string_bytes, take}
use Rattle.explanations.specs.Explained.{names_line}
use Rattle.explanations.proofs.telling.names_text.Given as goal

abbrev pub invariant-loop-table : goal.invariant-loop-table
invariant-loop-table l =
    string_bytes l.text ≡ flat_map names_line (take l.table-index l.tables)
