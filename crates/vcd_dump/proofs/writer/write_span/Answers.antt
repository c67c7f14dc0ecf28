use Rattle.std.proofs.Common.{◌++◌, length, ap, subst}
use Rattle.logic3.proofs.CallerLemmas.{OnErr_always}
use Rattle.texts.specs.Written.{AppendsPrefix}
use Rattle.texts.proofs.CallerLemmas.{GoesOut-broken}
use Rattle.vcd_dump.specs.Written.{written_span}
use Rattle.vcd_dump.proofs.writer.write_span.Goals as goal

pub returns-in_err-send-clause-err : goal.returns-in_err-send-clause-err
returns-in_err-send-clause-err g c =
    let held = g.W.Write.contents in
    let text = written_span (length c.args.codes.now) c.args.from c.args.time c.args.lines.now in
    OnErr_always _
    (subst (AppendsPrefix (held c.args.out.now) (held c.send.new.out)) (ap (λ xs. xs ++ text) c.requires.empty)
    (GoesOut-broken _ (held c.write_in_order.new.out) _ _ _ c.in_ok-last.ensures.ok c.in_err-send.ensures.err))
