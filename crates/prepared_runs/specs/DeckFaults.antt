-- The name and the line of a fault.
use Rattle.std.specs.Prelude.{ℕ, List, codes}
use Rattle.prepared_runs.specs.declared.deck_fault.DeckFault.{DeckFault}
use Rattle.prepared_runs.specs.declared.deck_fault.DeckFault.TheVariants.{TooLong, BadDeck, Sim}
use Rattle.prepared_runs.specs.Faults as of_run

-- the line of a fault in its text, or 0 for one without a line
abbrev pub line_of : DeckFault → ℕ
line_of TooLong = 0
line_of (BadDeck line) = line
line_of (Sim fault) = of_run.line_of fault

abbrev pub name_of : DeckFault → List ℕ
name_of TooLong = codes "TooLong"
name_of (BadDeck line) = codes "BadDeck"
name_of (Sim fault) = of_run.name_of fault
