use Rattle.std.proofs.Common.{ℕ, List, subst}
use Rattle.logic3.proofs.CallerLemmas.{OnErr_always}
use Rattle.cmb_kernel.specs.State.{most_rounds}
use Rattle.texts.specs.Written.{AppendsPrefix, GoesOut}
use Rattle.texts.proofs.CallerLemmas.{GoesOut-broken}
use Rattle.event_trace.specs.Frontiers.{headings, row_text, rows_of_kernel, rows_within, start_row, table_text}
use Rattle.event_trace.proofs.GoingOut.{nothing_out}
use Rattle.event_trace.proofs.TableRounds.{heading_over, rows_together}
use Rattle.event_trace.proofs.frontier_rows.write_table.Goals as goal

pub returns-in_err-push_headings-clause-err : goal.returns-in_err-push_headings-clause-err
returns-in_err-push_headings-clause-err g c = OnErr_always c.from_residual.result (nothing_out (g.W.Write.contents c.args.out.now) _)

pub returns-in_err-push_row-clause-err : goal.returns-in_err-push_row-clause-err
returns-in_err-push_row-clause-err g c = OnErr_always c.from_residual-in_err-push_row.result (nothing_out (g.W.Write.contents c.args.out.now) _)

pub returns-in_err-write_rounds-clause-err : goal.returns-in_err-write_rounds-clause-err
returns-in_err-write_rounds-clause-err g c =
    let held = g.W.Write.contents in
    let kernel = c.args.kernel.now in
    let nets = c.args.nets.now in
    let rest = table_text kernel.circuit kernel.end nets (rows_within (most_rounds kernel.end kernel.circuit) kernel.state) in
    let is = rows_together c.new-text.result.items c.push_headings.new.text.items c.push_row.new.text.items
    (row_text kernel.circuit kernel.end nets (headings kernel.circuit)) (row_text kernel.circuit kernel.end nets (start_row kernel.state)) rest
    c.new-text.ensures.items (heading_over c.design.result.now.circuit kernel c.end.result nets c.new-text.result.items c.push_headings.new.text.items c.design.ensures c.end.ensures.end c.in_ok-push_headings.ensures) c.in_ok-push_row.ensures in
    OnErr_always c.from_residual-in_err-write_rounds.result
    (subst (AppendsPrefix (held c.args.out.now) (held c.write_rounds.new.out)) is c.in_err-write_rounds.ensures.err)

pub returns-in_err-write_all_bytes-clause-err : goal.returns-in_err-write_all_bytes-clause-err
returns-in_err-write_all_bytes-clause-err g c =
    let held = g.W.Write.contents in
    let kernel = c.args.kernel.now in
    let nets = c.args.nets.now in
    let rest = table_text kernel.circuit kernel.end nets (rows_within (most_rounds kernel.end kernel.circuit) kernel.state) in
    let is = rows_together c.new-text.result.items c.push_headings.new.text.items c.push_row.new.text.items
    (row_text kernel.circuit kernel.end nets (headings kernel.circuit)) (row_text kernel.circuit kernel.end nets (start_row kernel.state)) rest
    c.new-text.ensures.items (heading_over c.design.result.now.circuit kernel c.end.result nets c.new-text.result.items c.push_headings.new.text.items c.design.ensures c.end.ensures.end c.in_ok-push_headings.ensures) c.in_ok-push_row.ensures in
    OnErr_always c.from_residual-in_err-write_all_bytes.result
    (GoesOut-broken (held c.args.out.now) (held c.write_rounds.new.out) (held c.write_all_bytes.new.out) (table_text kernel.circuit kernel.end nets (rows_of_kernel kernel))
    c.write_rounds.new.text.items
    (subst (λ (text : List ℕ). GoesOut (held c.args.out.now) (held c.write_rounds.new.out) text c.write_rounds.new.text.items) is c.in_ok-write_rounds.ensures.ok)
    (subst (AppendsPrefix (held c.write_rounds.new.out) (held c.write_all_bytes.new.out)) c.as_slice.ensures.value c.in_err-write_all_bytes.ensures.err))
