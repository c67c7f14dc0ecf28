use Rattle.std.proofs.Common.{arith}
use Rattle.logic3.proofs.CallerLemmas.{OnErr_always}
use Rattle.netlist.specs.Names.{seen_names}
use Rattle.program_io.proofs.Pieces.{Appends-next_text, AppendsPrefix-next_text, text_at}
use Rattle.program_io.proofs.output.write_pieces.Goals as goal

pub returns-in_err-write_all_bytes-clause-err : goal.returns-in_err-write_all_bytes-clause-err
returns-in_err-write_all_bytes-clause-err g c =
    let held = g.W.Write.contents in
    let is = text_at c.args.pieces.now c.loop-piece.piece-index _ c.as_bytes.result.now (omega arith) c.as_bytes.ensures.value in
    OnErr_always c.from_residual.result (AppendsPrefix-next_text (seen_names c.args.pieces.now) c.loop-piece.piece-index c.as_bytes.result.now is
    (held c.args.out.now) _ _ c.loop-piece.invariant c.in_err-write_all_bytes.ensures.err)

pub loop-piece-preserved : goal.loop-piece-preserved
loop-piece-preserved g c =
    let held = g.W.Write.contents in
    let is = text_at c.args.pieces.now c.loop-piece.piece-index _ c.as_bytes.result.now (omega arith) c.as_bytes.ensures.value in
    Appends-next_text (seen_names c.args.pieces.now) c.loop-piece.piece-index c.as_bytes.result.now is (held c.args.out.now) _ _
    c.loop-piece.invariant c.in_ok-write_all_bytes.ensures.ok
