-- The text so far is what the tables so far tell.
use Rattle.std.proofs.Common.{◌≡◌, flat_map, string_bytes, take}
use Rattle.explanations.specs.Explained.{told_by}
use Rattle.explanations.proofs.telling.explanation_text.Given as goal

abbrev pub invariant-loop-table : goal.invariant-loop-table
invariant-loop-table l =
    string_bytes l.text ≡ flat_map (told_by l.name) (take l.table-index l.tables)
