use Rattle.std.proofs.Common.{inl, inr, refl}
use Rattle.program_io.proofs.CallerLemmas.{IsAnswer-read}
use Rattle.program_io.specs.OrderAnswer.{IsAnswer, IsAnswerTo}
use Rattle.nullsim.proofs.Answering.{Answered-weaker}
use Rattle.nullsim.proofs.commander.exit_of_order.Goals as goal

-- what is the answer over the texts that were read is that to the order
pub returns-in-Ok-clause-reported : goal.returns-in-Ok-clause-reported
returns-in-Ok-clause-reported g c =
    let known = g.T.Texts.known c.args.texts.now in
    let order = c.args.order.now in
    inr (
      c.in-Ok.ensures.read,
      Answered-weaker (IsAnswerTo order c.in-Ok.read) (IsAnswer known order) (IsAnswer-read known order c.in-Ok.read c.in-Ok.ensures.ok) c.args.progress order
          (record { readings = g.T.Texts.readings c.args.texts.now; out = g.W.Write.contents c.args.out.now; err = g.E.Write.contents c.args.err.now })
          (record {
            readings = g.T.Texts.readings c.read_texts.new.texts;
            out = g.W.Write.contents c.answer_read.new.out;
            err = g.E.Write.contents c.answer_read.new.err;
          })
          c.answer_read.result c.answer_read.ensures.reported,
    )

pub returns-in-Err-clause-reported : goal.returns-in-Err-clause-reported
returns-in-Err-clause-reported g c =
    inl (c.in-Err.unread, c.in-Err.ensures.err, refl, rw (← c.side.ensures, ← c.text_names.ensures) c.report.ensures)
