-- An answer that was written, with what is noted of its run.
use Rattle.std.proofs.Common.{◌≡◌, ap, subst, ◌∙◌}
use Rattle.program_io.specs.declared.exit.Exit.{Exit}
use Rattle.program_io.specs.declared.outcome.Outcome.{Outcome}
use Rattle.program_io.specs.Answers.{GoesOut}
use Rattle.command_line.specs.declared.order.Order.{Order}
use Rattle.program_io.specs.declared.order_texts.OrderTexts.{OrderTexts}
use Rattle.program_io.specs.OrderAnswer.{IsAnswerTo}
use Rattle.program_io.specs.Report.{outcome_text}
use Rattle.program_io.specs.Status.{status_of_outcome}
use Rattle.nullsim.specs.Command.{Streams}
use Rattle.nullsim.specs.Noted.{AnswerNoted, order_notes}
use Rattle.nullsim.specs.Parts.{AreWritten}

-- the answer over these texts went out, and what is reported beside it was reported, with the notes behind it
pub AnswerNoted-outcome : (texts : OrderTexts) (order : Order) (old new : Streams) (outcome : Outcome) (exit : Exit) →
    GoesOut (IsAnswerTo order texts) old.out new.out outcome → AreWritten old.err new.err (outcome_text outcome) (order_notes texts order) exit.written →
    exit.status ≡ status_of_outcome outcome → AnswerNoted texts order old new exit
AnswerNoted-outcome texts order old new outcome exit (answer, is, (appends, same)) written reported = (
  answer,
  is,
  (
    appends,
    subst (λ (o : Outcome). AreWritten old.err new.err (outcome_text o) (order_notes texts order) exit.written) same written,
    reported ∙ ap status_of_outcome same,
  ),
)
