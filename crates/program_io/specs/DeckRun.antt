-- The answer to a deck, which is that of its sections, and how its run ends.
use Rattle.std.specs.Prelude.{◌≡◌, ℕ, List, Option, Result, Err, IsOkAnd}
use Rattle.std.specs.Io.KnownBytes.{Keeps}
use Rattle.std.specs.Result.{result_map_both}
use Rattle.texts.specs.Text.{◌>>=◌}
use Rattle.vcd_dump.specs.declared.unit.TimeUnit.TheVariants.{Ns}
use Rattle.texts.specs.Written.{AppendsPrefix}
use Rattle.vcd_dump.specs.Faults.{IsFailedWrite}
use Rattle.prepared_runs.specs.declared.deck_fault.DeckFault.{DeckFault}
use Rattle.prepared_runs.specs.declared.deck_fault.DeckFault.TheVariants.{Sim}
use Rattle.prepared_runs.specs.Deck.{Sections, sections_of}
use Rattle.prepared_runs.specs.declared.fault.SimFault.TheVariants.{Dump, Memory}
use Rattle.kernel_runs.specs.declared.simulation.Report.{Report}
use Rattle.prepared_runs.specs.declared.view.Show.TheVariants.{All}
use Rattle.prepared_runs.specs.declared.view.View.{View}
use Rattle.prepared_runs.specs.Ends.{WritesPart}
use Rattle.prepared_runs.specs.Events.{text}
use Rattle.kernel_runs.specs.Simulated.{dump_in, simulated}
use Rattle.prepared_runs.specs.Source.{SourceView, or_fault, MayWantMemory}
use Rattle.prepared_runs.specs.Views.{dump_view}
use Rattle.program_io.specs.declared.program_fault.ProgramFault.{ProgramFault}
use Rattle.program_io.specs.Answers.{Answer, just}
use Rattle.program_io.specs.ProgramFaults.{fault_of_deck}

-- a deck's run has the default delay 1 and the period 10; its schedule picks the events
abbrev pub source_of_deck : Sections → SourceView
source_of_deck s = record {
  bench = (s.texts).bench;
  delays = (s.texts).delays;
  stimuli = (s.texts).stimuli;
  default_delay = 1;
  period = 10;
  picks = text (s.texts).schedule;
}

-- it shows all nets in nanoseconds
abbrev pub view_of_deck : Sections → View
view_of_deck s = record { horizon = s.horizon; show = All; unit = Ns }

-- the answer to a deck: the dump and the report, or the first fault
unfoldable pub simulated_deck : List ℕ → Result (List ℕ × Report) DeckFault
simulated_deck bytes = do
  sections ← sections_of bytes
  or_fault Sim (simulated (source_of_deck sections) (dump_view (view_of_deck sections)))

-- the dump alone
abbrev pub dump_of_deck : List ℕ → Result (List ℕ) DeckFault
dump_of_deck bytes = dump_in (simulated_deck bytes)

-- the same as an answer of the program
abbrev pub deck_answer : List ℕ → Result Answer ProgramFault
deck_answer bytes = result_map_both just fault_of_deck (dump_of_deck bytes)

-- a failed write broke off the dump, or a failed allocation the run; any other fault is the answer, and nothing was written
abbrev pub DeckEndsBy : Result (List ℕ) DeckFault → Option (List ℕ) → Option (List ℕ) → DeckFault → Type 0
DeckEndsBy answer old new (Sim (Dump fault)) = IsFailedWrite fault × IsOkAnd answer (AppendsPrefix old new)
DeckEndsBy answer old new (Sim Memory) = WritesPart answer old new
DeckEndsBy answer old new fault = (answer ≡ Err fault) × Keeps old new

-- an allocation can fail only for a deck whose horizon is in its range and whose netlist's text isn't too long
abbrev pub DeckMayWantMemory : List ℕ → Type 0
DeckMayWantMemory bytes = IsOkAnd (sections_of bytes) (λ sections. MayWantMemory (source_of_deck sections) sections.horizon)
