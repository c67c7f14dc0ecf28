-- How the program without arguments ends.
use Rattle.std.specs.Prelude.{◌≡◌, ◌⊎◌, ℕ, List, Option, Result, IfSome, IsOkAnd, codes}
use denote.Ref.{Bor}
use Rattle.std.specs.Io.KnownBytes.{Appends, Keeps}
use Rattle.program_io.specs.declared.exit.Exit.{Exit}
use Rattle.program_io.specs.declared.input.ReadFault.{ReadFault}
use Rattle.program_io.specs.declared.program_fault.ProgramFault.{ProgramFault}
use Rattle.prepared_runs.specs.RunTexts.{section_names}
use Rattle.program_io.specs.Answers.{Answer, AnswerEndsBy, IsNoRead}
use Rattle.program_io.specs.ProgramFaults.{fault_of_read}
use Rattle.program_io.specs.Report.{Reports}
use Rattle.program_io.specs.DeckRun.{deck_answer}

-- a failed read of standard input, as a fault of the program
abbrev pub IsUnreadDeck : ReadFault → ProgramFault → Type 0
IsUnreadDeck fault reported = (name : Bor (List ℕ)) × (name.now ≡ codes "stdin") × (reported ≡ fault_of_read name fault)

module _ (out out_new err err_new : Option (List ℕ)) (exit : Exit) where
  -- ---- a deck that was read and has this answer

  -- its dump was written, and nothing was reported
  abbrev pub DeckDone : Result Answer ProgramFault → Type 0
  DeckDone answer = (exit.status ≡ 0) × IsOkAnd answer (λ such. Appends out out_new such.text) × Keeps err err_new

  -- it ended with a fault, which was reported
  abbrev pub DeckBroken : Result Answer ProgramFault → Type 0
  DeckBroken answer =
      (fault : ProgramFault) × IsNoRead fault × AnswerEndsBy (λ such. such ≡ answer) out out_new fault
      × Reports section_names fault err err_new exit

  abbrev pub DeckReported : Result Answer ProgramFault → Type 0
  DeckReported answer = DeckDone answer ⊎ DeckBroken answer

  -- ---- standard input

  -- it couldn't be read: nothing was written
  abbrev pub DeckUnread : Type 0
  DeckUnread =
      (fault : ReadFault) × ((reported : ProgramFault) × IsUnreadDeck fault reported × Keeps out out_new
      × Reports section_names reported err err_new exit)

  -- or what was reported is for the deck that the reader has: for all its bytes, if they are known
  abbrev pub TellEnds : Option (List ℕ) → Type 0
  TellEnds bytes = DeckUnread ⊎ ((deck : List ℕ) × IfSome bytes (λ all. deck ≡ all) × DeckReported (deck_answer deck))
