-- A deck from standard input whose fault is explained, or on whose run there are notes.
use Rattle.std.specs.Prelude.{◌≡◌, ◌⊎◌, ℕ, ◌+◌, ◌-◌, ◌^◌, ◌==◌, min, Bool, false, if◌then◌else◌, List, [], ◌∷◌, ◌++◌, position, take, bytes_eq, codes, option_and_then, Option, None, Some, IfSome, IsOkAnd}
use Rattle.std.specs.Option.{option_map_or}
use Rattle.std.specs.Result.{result_ok}
use Rattle.std.specs.Io.KnownBytes.{Appends, Keeps}
use Rattle.explanations.specs.declared.table.Table.{Table}
use Rattle.explanations.specs.AtHand.{FaultView, told_at_hand}
use Rattle.texts.specs.Text.{lines_of, longest_text, words_of}
use Rattle.texts.specs.Written.{numbered}
use Rattle.timing_text.specs.declared.fault.OptionFault.{OptionFault}
use Rattle.timing_text.specs.declared.fault.OptionFault.TheVariants as setting
use Rattle.prepared_runs.specs.declared.fault.SimFault.{SimFault}
use Rattle.prepared_runs.specs.declared.fault.SimFault.TheVariants as sim
use Rattle.prepared_runs.specs.Deck.{Sections, sections_of}
use Rattle.prepared_runs.specs.RunTexts.{section_names}
use Rattle.prepared_runs.specs.Seen.{held, on_sections}
use Rattle.plain_runs.specs.Noted.{notes_of_source}
use Rattle.program_io.specs.declared.exit.Exit.{Exit}
use Rattle.program_io.specs.declared.input.ReadFault.{ReadFault}
use Rattle.program_io.specs.declared.program_fault.ProgramFault.{ProgramFault}
use Rattle.program_io.specs.declared.program_fault.ProgramFault.TheVariants.{Deck, Run}
use Rattle.program_io.specs.Answers.{AnswerEndsBy, IsNoRead}
use Rattle.program_io.specs.DeckRun.{deck_answer, source_of_deck}
use Rattle.program_io.specs.Place.{fault_line}
use Rattle.program_io.specs.ProgramFaults.{line_of, name_of}
use Rattle.program_io.specs.Report.{IsWritten}
use Rattle.program_io.specs.Status.{status_of}
use Rattle.program_io.specs.Tell.{IsUnreadDeck}
use Rattle.nullsim.specs.Noted.{text_or_none}
use Rattle.nullsim.specs.Parts.{AreWritten}
use Rattle.nullsim.specs.Verbose.{reason_of, subject_of}

-- ---- what a deck has

-- its sections, if it is one
abbrev pub sections_in : List ℕ → Option Sections
sections_in deck = result_ok (on_sections held (sections_of deck))

-- the notes on its run; none if it is refused, which it isn't once its dump is written
abbrev pub notes_of_sections : Option Sections → List ℕ
notes_of_sections None = []
notes_of_sections (Some sections) = text_or_none (notes_of_source (source_of_deck sections) sections.horizon)

abbrev pub deck_notes : List ℕ → List ℕ
deck_notes deck = notes_of_sections (sections_in deck)

-- ---- which line of it is at fault

-- the marker of the section for which a run is refused
abbrev pub marker_in_run : SimFault → Option (List ℕ)
marker_in_run (sim.Bench fault) = Some (codes "%bench")
marker_in_run (sim.Timing fault) = Some (codes "%delays")
marker_in_run (sim.Stimulus fault) = Some (codes "%stimuli")
marker_in_run (sim.Schedule fault) = Some (codes "%schedule")
marker_in_run other = None

abbrev pub marker_at_fault : ProgramFault → Option (List ℕ)
marker_at_fault (Run side fault) = marker_in_run fault
marker_at_fault other = None

-- the words are this one alone
abbrev pub are_just : List ℕ → List (List ℕ) → Bool
are_just word (found ∷ []) = bytes_eq found word
are_just word other = false

-- the place, from 0, of the line that has this word alone
abbrev pub place_of_marker : List ℕ → List ℕ → Option ℕ
place_of_marker deck marker = position (λ line. are_just marker (words_of line)) (lines_of deck)

-- the number of the deck's line that is this line of the section after such a place, as a `u64` holds it
abbrev pub line_after : ℕ → ℕ → ℕ
line_after place line = min (2 ^ 64 - 1) (place + 1 + line)

abbrev pub section_line : List ℕ → ℕ → List ℕ
section_line marker line = numbered (codes "line ") line ++ codes " of " ++ marker

abbrev pub deck_line : ℕ → List ℕ
deck_line line = numbered (codes " is line ") line ++ codes " of the deck\n"

-- that line of a section and the deck's line
abbrev pub line_told : List ℕ → ℕ → ℕ → List ℕ
line_told marker line place = section_line marker line ++ deck_line (line_after place line)

-- which line of the deck is this line of a section; nothing for a fault without a line
abbrev pub section_line_told : List ℕ → ℕ → List ℕ → List ℕ
section_line_told deck line marker = if line == 0 then [] else option_map_or (line_told marker line) (place_of_marker deck marker) []

abbrev pub deck_line_told : List ℕ → ProgramFault → List ℕ
deck_line_told deck fault = option_map_or (section_line_told deck (line_of fault)) (marker_at_fault fault) []

-- ---- what else is known of the fault

-- the section for which a run is refused
abbrev pub section_in_run : SimFault → Sections → Option (List ℕ)
section_in_run (sim.Bench fault) sections = Some (sections.texts).bench
section_in_run (sim.Timing fault) sections = Some (sections.texts).delays
section_in_run (sim.Stimulus fault) sections = Some (sections.texts).stimuli
section_in_run (sim.Schedule fault) sections = Some (sections.texts).schedule
section_in_run other sections = None

-- the text at fault: the deck, or a section
abbrev pub text_in_deck : List ℕ → ProgramFault → Option (List ℕ)
text_in_deck deck (Deck fault) = Some deck
text_in_deck deck (Run side fault) = option_and_then (section_in_run fault) (sections_in deck)
text_in_deck deck other = None

-- the circuit of the run at fault
abbrev pub circuit_in_deck : List ℕ → ProgramFault → Option (List ℕ)
circuit_in_deck deck (Run side fault) = option_and_then (λ (sections : Sections). Some (sections.texts).bench) (sections_in deck)
circuit_in_deck deck other = None

-- the number at fault: the horizon
abbrev pub horizon_of_setting : OptionFault → Sections → Option ℕ
horizon_of_setting setting.BadHorizon sections = Some sections.horizon
horizon_of_setting other sections = None

abbrev pub horizon_in_run : SimFault → Sections → Option ℕ
horizon_in_run (sim.Setting fault) sections = horizon_of_setting fault sections
horizon_in_run other sections = None

abbrev pub number_in_deck : List ℕ → ProgramFault → Option ℕ
number_in_deck deck (Run side fault) = option_and_then (horizon_in_run fault) (sections_in deck)
number_in_deck deck other = None

-- the fault with all that is known of it
abbrev pub deck_fault : Option (List ℕ) → List ℕ → ProgramFault → FaultView
deck_fault said deck fault = record {
  subject = subject_of fault;
  name = name_of fault;
  line = line_of fault;
  text = text_in_deck deck fault;
  word = None;
  number = number_in_deck deck fault;
  reason = reason_of said fault;
  circuit = circuit_in_deck deck fault;
}

-- what is printed for the fault of a deck
abbrev pub deck_explanation : List Table → Option (List ℕ) → List ℕ → ProgramFault → List ℕ
deck_explanation tables said deck fault = deck_line_told deck fault ++ told_at_hand tables (deck_fault said deck fault)

-- ---- how a deck ends

module _ (tables : List Table) (err err_new : Option (List ℕ)) (exit : Exit) where
  -- the status of its fault; and the fault's line, followed by what is printed for it with some message of the system, or a prefix of each
  abbrev pub DeckFaultTold : List ℕ → ProgramFault → Type 0
  DeckFaultTold deck fault =
      (exit.status ≡ status_of fault)
      × ((said : Option (List ℕ)) × AreWritten err err_new (fault_line section_names fault) (deck_explanation tables said deck fault) exit.written)

  module _ (out out_new : Option (List ℕ)) where
    -- its dump was written, and the notes on its run, or a prefix of these
    abbrev pub DeckNoted : List ℕ → Type 0
    DeckNoted deck = (exit.status ≡ 0) × IsOkAnd (deck_answer deck) (λ such. Appends out out_new such.text) × IsWritten err err_new (deck_notes deck) exit.written

    -- it ended with a fault, which was reported and explained
    abbrev pub DeckBrokenVerbosely : List ℕ → Type 0
    DeckBrokenVerbosely deck =
        (fault : ProgramFault) × IsNoRead fault × AnswerEndsBy (λ such. such ≡ deck_answer deck) out out_new fault × DeckFaultTold deck fault

    abbrev pub DeckTold : List ℕ → Type 0
    DeckTold deck = DeckNoted deck ⊎ DeckBrokenVerbosely deck

    -- standard input couldn't be read: nothing was written
    abbrev pub DeckUnreadVerbosely : Type 0
    DeckUnreadVerbosely =
        (fault : ReadFault) × ((reported : ProgramFault) × IsUnreadDeck fault reported × Keeps out out_new × DeckFaultTold [] reported)

    -- or what was read is all bytes of the reader, or so many that the deck's answer is the same
    abbrev pub TellsVerbosely : Option (List ℕ) → Type 0
    TellsVerbosely bytes =
        DeckUnreadVerbosely
        ⊎ ((deck : List ℕ) × IfSome bytes (λ all. (deck ≡ take (longest_text + 1) all) × (deck_answer deck ≡ deck_answer all)) × DeckTold deck)
