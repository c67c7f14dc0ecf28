-- The progress that an order reports, before everything else that it reports.
use Rattle.std.specs.Prelude.{◌≡◌, ◌⊎◌, ℕ, Bool, true, false, List, Option, Result}
use Rattle.explanations.specs.declared.table.Table.{Table}
use Rattle.texts.specs.Written.{AppendsPrefix}
use Rattle.prepared_runs.specs.Percents.{progress_text}
use Rattle.program_io.specs.declared.exit.Exit.{Exit}
use Rattle.program_io.specs.declared.program_fault.ProgramFault.{ProgramFault}
use Rattle.program_io.specs.Answers.{Answer}
use Rattle.command_line.specs.declared.order.Order.{Order}
use Rattle.program_io.specs.declared.order_texts.OrderTexts.{OrderTexts}
use Rattle.program_io.specs.Options.{KnownTexts, ReadsOrder}
use Rattle.program_io.specs.OrderAnswer.{IsAnswer}
use Rattle.program_io.specs.Progress.{BrokenTicks, DoneTicks, horizon_reported}
use Rattle.program_io.specs.Readings.{ReadsAll, files_of}
use Rattle.nullsim.specs.Command.{AnswerBroken, AnswerDone, OrderUnread, Streams}
use Rattle.nullsim.specs.Noted.{AnswerNoted}
use Rattle.nullsim.specs.Verbose.{AnswerBrokenVerbosely, OrderUnreadVerbosely}

-- the percentages of such numbers of ticks were written, or a prefix of them; nothing if they aren't requested
abbrev pub ReportsProgress : Bool → Order → (List ℕ → Type 0) → Option (List ℕ) → Option (List ℕ) → Type 0
ReportsProgress false order Such old new = new ≡ old
ReportsProgress true order Such old new = (ticks : List ℕ) × Such ticks × AppendsPrefix old new (progress_text (horizon_reported order) ticks)

module _ (progress : Bool) (order : Order) (old : Streams) where
  -- the progress, and then such an end
  abbrev pub Behind : (List ℕ → Type 0) → (Streams → Type 0) → Type 0
  Behind Such Ends = (reported : Option (List ℕ)) × ReportsProgress progress order Such old.err reported × Ends (record old { err = reported })

  -- an order is done or broken off, after the progress of each
  abbrev pub Ended : (Streams → Type 0) → (Streams → Type 0) → Type 0
  Ended Done Broken = Behind (DoneTicks order) Done ⊎ Behind (BrokenTicks order) Broken

-- ---- an order

-- such an answer, or the fault after all files were read, is reported
abbrev pub Answered : (Result Answer ProgramFault → Type 0) → Bool → Order → Streams → Streams → Exit → Type 0
Answered IsSuch progress order old new exit =
    Ended progress order old (λ reported. AnswerDone IsSuch reported new exit) (λ reported. AnswerBroken IsSuch order reported new exit)

-- its files were read, and its answer or its fault is reported; or one couldn't be read, and only that is reported
abbrev pub OrderReported : Bool → KnownTexts → Order → Streams → Streams → Exit → Type 0
OrderReported progress known order old new exit =
    OrderUnread order old new exit
    ⊎ (ReadsAll (files_of order) old.readings new.readings × Answered (IsAnswer known order) progress order old new exit)

-- ---- and its fault explained, or the notes of its run printed

abbrev pub AnsweredVerbosely : List Table → OrderTexts → Bool → Order → Streams → Streams → Exit → Type 0
AnsweredVerbosely tables texts progress order old new exit =
    Ended progress order old (λ reported. AnswerNoted texts order reported new exit) (λ reported. AnswerBrokenVerbosely tables order reported new exit texts)

-- by the texts that were read, or by the system's message on a failed read, as the texts know it
abbrev pub OrderExplained : Bool → List Table → Order → KnownTexts → Option (List ℕ) → Streams → Streams → Exit → Type 0
OrderExplained progress tables order known said old new exit =
    OrderUnreadVerbosely tables order old new exit said
    ⊎ ((texts : OrderTexts) × ReadsOrder known order texts × ReadsAll (files_of order) old.readings new.readings
    × AnsweredVerbosely tables texts progress order old new exit)
