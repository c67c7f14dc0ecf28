use Rattle.std.proofs.Common.{inr, subst}
use Rattle.program_io.specs.Ends.{WriteEndsBy}
use Rattle.nullsim.proofs.commander.give_text.Goals as goal

pub returns-in-Err-clause-given : goal.returns-in-Err-clause-given
returns-in-Err-clause-given g c =
    inr (c.in-Err.fault, subst (λ text. WriteEndsBy (g.W.Write.contents c.args.out.now) (g.W.Write.contents c.write_text.new.out) text c.in-Err.fault) c.as_bytes.ensures.value c.in-Err.ensures.err, c.report.ensures)
