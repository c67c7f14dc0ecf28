-- How the program with arguments ends.
use Rattle.std.specs.Prelude.{◌≡◌, ◌⊎◌, ℕ, List, Option, Result, string_bytes}
use Rattle.std.specs.Io.KnownBytes.{Appends, Keeps}
use Rattle.command_line.specs.declared.order.Order.{Order}
use Rattle.program_io.specs.declared.exit.Exit.{Exit}
use Rattle.program_io.specs.declared.program_fault.ProgramFault.{ProgramFault}
use Rattle.program_io.specs.declared.program_fault.ProgramFault.TheVariants as program
use Rattle.program_io.specs.Answers.{Answer, AnswerEndsBy, IsNoRead}
use Rattle.program_io.specs.Ends.{ForAnswer, WriteEndsBy}
use Rattle.command_line.specs.Orders.{names_of}
use Rattle.prepared_runs.specs.RunTexts.{section_names}
use Rattle.program_io.specs.ProgramFaults.{side_of}
use Rattle.program_io.specs.Readings.{KnownReadings, StopsBy, files_of}
use Rattle.program_io.specs.Report.{IsWritten, Reports, outcome_text}
use Rattle.program_io.specs.Status.{status_of_outcome}
use Rattle.command_line.specs.declared.words.NoOrder.{NoOrder}
use Rattle.command_line.specs.declared.words.NoOrder.TheVariants.{Help, Usage, Memory}
use Rattle.nullsim.specs.Version.{version_line}

-- what is known of what the program reads and writes, before it runs or after
pub record Streams : Type 0 where
  pub readings : KnownReadings
  pub out : Option (List ℕ)
  pub err : Option (List ℕ)

-- ---- an order

-- a file couldn't be read: nothing was written, and that was reported
abbrev pub OrderUnread : Order → Streams → Streams → Exit → Type 0
OrderUnread order old new exit =
    (fault : ProgramFault) × StopsBy (files_of order) old.readings new.readings fault × (new.out ≡ old.out)
    × Reports (names_of order (side_of fault)) fault old.err new.err exit

-- such an answer was written, and what is printed with it: whole, or a prefix of it if it wasn't written
abbrev pub AnswerDone : (Result Answer ProgramFault → Type 0) → Streams → Streams → Exit → Type 0
AnswerDone IsSuch old new exit =
    ForAnswer IsSuch (λ answer. Appends old.out new.out answer.text
    × IsWritten old.err new.err (outcome_text answer.outcome) exit.written × (exit.status ≡ status_of_outcome answer.outcome))

-- the order with such an answer ended, after its files were read, with a fault that was reported
abbrev pub AnswerBroken : (Result Answer ProgramFault → Type 0) → Order → Streams → Streams → Exit → Type 0
AnswerBroken IsSuch order old new exit =
    (fault : ProgramFault) × IsNoRead fault × AnswerEndsBy IsSuch old.out new.out fault
    × Reports (names_of order (side_of fault)) fault old.err new.err exit

-- ---- arguments that are no order

-- a requested text is written: the help, the version, or explanations of faults
abbrev pub TextGiven : List ℕ → Option (List ℕ) → Option (List ℕ) → Option (List ℕ) → Option (List ℕ) → Exit → Type 0
TextGiven text out out_new err err_new exit =
    ((exit.status ≡ 0) × Appends out out_new text × Keeps err err_new)
    ⊎ ((fault : ProgramFault) × WriteEndsBy out out_new text fault × Reports section_names fault err err_new exit)

-- a text that is made is written in this way, or an allocation for it failed
abbrev pub TextMade : List ℕ → Option (List ℕ) → Option (List ℕ) → Option (List ℕ) → Option (List ℕ) → Exit → Type 0
TextMade text out out_new err err_new exit =
    TextGiven text out out_new err err_new exit ⊎ (Keeps out out_new × Reports section_names program.Memory err err_new exit)

-- what is wrong with the arguments is printed: whole, or a prefix of it if it wasn't written
abbrev pub WrongWords : List ℕ → Option (List ℕ) → Option (List ℕ) → Option (List ℕ) → Option (List ℕ) → Exit → Type 0
WrongWords text out out_new err err_new exit = (exit.status ≡ 2) × Keeps out out_new × IsWritten err err_new text exit.written

-- the help, or what is wrong, is written
abbrev pub Explains : Option (List ℕ) → Option (List ℕ) → Option (List ℕ) → Option (List ℕ) → NoOrder → Exit → Type 0
Explains out out_new err err_new (Help text) exit = TextGiven (string_bytes text) out out_new err err_new exit
Explains out out_new err err_new (Usage text) exit = WrongWords (string_bytes text) out out_new err err_new exit
Explains out out_new err err_new Memory exit = Keeps out out_new × Reports section_names program.Memory err err_new exit

-- ---- the version

-- the version is written, and no text is requested
abbrev pub VersionGiven : Streams → Streams → Exit → Type 0
VersionGiven old new exit = (new.readings ≡ old.readings) × TextGiven version_line old.out new.out old.err new.err exit
