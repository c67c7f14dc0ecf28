use Rattle.logic3.proofs.CallerLemmas.{OnErr_always}
use Rattle.event_trace.proofs.GoingOut.{nothing_out}
use Rattle.event_trace.proofs.frontier_rows.write_round.Goals as goal

pub returns-in_err-push_round_row-clause-err : goal.returns-in_err-push_round_row-clause-err
returns-in_err-push_round_row-clause-err g c = OnErr_always c.from_residual-in_err-push_round_row.result (nothing_out (g.W.Write.contents c.args.out.now) _)
