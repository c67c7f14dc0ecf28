use Rattle.std.proofs.Common.{codes}
use Rattle.std.proofs.lemmas.Result.{err_from_is_err_and, on_err_weaker}
use Rattle.texts.specs.Written.{numbered}
use Rattle.texts.proofs.CallerLemmas.{AppendsPrefix-after, AppendsPrefix-longer}
use Rattle.prepared_runs.proofs.percents.write_percent.Goals as goal

pub returns-in_err-write_numbered-clause-err : goal.returns-in_err-write_numbered-clause-err
returns-in_err-write_numbered-clause-err g c =
    let p = err_from_is_err_and c.from_residual.result c.from_residual.ensures.1 in
    let bytes = g.E.Write.contents in
    rw p.1 (AppendsPrefix-longer (bytes c.args.out.now) (bytes c.write_numbered.new.out) (numbered (codes "\r") c.args.percent) (codes "%")
    c.in_err-write_numbered.ensures.err)

pub returns-clause-err : goal.returns-clause-err
returns-clause-err g c =
    let bytes = g.E.Write.contents in
    on_err_weaker c.write_all_bytes.result
    (AppendsPrefix-after (bytes c.args.out.now) (bytes c.write_numbered.new.out) (bytes c.write_all_bytes.new.out) (numbered (codes "\r") c.args.percent) (codes "%")
    c.in_ok-write_numbered.ensures.ok)
    c.write_all_bytes.ensures.err
