use Rattle.std.proofs.Common.{None, inl, inr}
use Rattle.program_io.specs.OrderAnswer.{IsAnswerTo}
use Rattle.nullsim.proofs.Answering.{AnswerDone-outcome}
use Rattle.nullsim.proofs.commander.answer_read.Goals as goal

pub returns-in-Ok-clause-reported : goal.returns-in-Ok-clause-reported
returns-in-Ok-clause-reported g c =
    inl (
      g.E.Write.contents c.carry_out.new.err,
      c.in-Ok.ensures.reported,
      AnswerDone-outcome (IsAnswerTo c.args.order.now c.args.texts.now)
          (record { readings = None; out = g.W.Write.contents c.args.out.now; err = g.E.Write.contents c.carry_out.new.err })
          (record { readings = None; out = g.W.Write.contents c.carry_out.new.out; err = g.E.Write.contents c.report_outcome.new.err })
          c.in-Ok.outcome c.report_outcome.result c.in-Ok.ensures.ok c.report_outcome.ensures.reported c.report_outcome.ensures.status,
    )

pub returns-in-Err-clause-reported : goal.returns-in-Err-clause-reported
returns-in-Err-clause-reported g c =
    inr (
      g.E.Write.contents c.carry_out.new.err,
      c.in-Err.ensures.reported_until,
      (c.in-Err.fault, c.in-Err.ensures.no_read, c.in-Err.ensures.err, rw (← c.side.ensures, ← c.text_names.ensures) c.report.ensures),
    )
