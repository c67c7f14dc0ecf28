-- What an order reports beside its answer.
use Rattle.std.proofs.Common.{◌≡◌, Bool, Result, Ok, inl, inr, ap, subst, ◌∙◌}
use Rattle.program_io.specs.declared.exit.Exit.{Exit}
use Rattle.program_io.specs.declared.outcome.Outcome.{Outcome}
use Rattle.program_io.specs.declared.program_fault.ProgramFault.{ProgramFault}
use Rattle.program_io.specs.Answers.{Answer, GoesOut}
use Rattle.program_io.proofs.CallerLemmas.{AnswerEndsBy-weaker}
use Rattle.program_io.specs.Report.{IsWritten, outcome_text}
use Rattle.program_io.specs.Status.{status_of_outcome}
use Rattle.command_line.specs.declared.order.Order.{Order}
use Rattle.nullsim.specs.Command.{AnswerDone, Streams}
use Rattle.nullsim.specs.Progress.{Answered}

-- such an answer went out, and what is reported beside it was reported
pub AnswerDone-outcome : (IsSuch : Result Answer ProgramFault → Type 0) (old new : Streams) (outcome : Outcome) (exit : Exit) →
    GoesOut IsSuch old.out new.out outcome → IsWritten old.err new.err (outcome_text outcome) exit.written → exit.status ≡ status_of_outcome outcome →
    AnswerDone IsSuch old new exit
AnswerDone-outcome IsSuch old new outcome exit (answer, is, (appends, same)) written reported =
    (answer, is, (appends, subst (λ (o : Outcome). IsWritten old.err new.err (outcome_text o) exit.written) same written, reported ∙ ap status_of_outcome same))

-- an answer of the one kind is one of the other
module _ (P Q : Result Answer ProgramFault → Type 0) (turns : (answer : Result Answer ProgramFault) → P answer → Q answer) where
  pub Answered-weaker : (progress : Bool) (order : Order) (old new : Streams) (exit : Exit) → Answered P progress order old new exit →
      Answered Q progress order old new exit
  Answered-weaker progress order old new exit (inl (reported, progressed, (answer, is, done))) =
      inl (reported, progressed, (answer, turns (Ok answer) is, done))
  Answered-weaker progress order old new exit (inr (reported, progressed, (fault, no_read, ends, reports))) =
      inr (reported, progressed, (fault, no_read, AnswerEndsBy-weaker P Q turns old.out new.out fault ends, reports))
