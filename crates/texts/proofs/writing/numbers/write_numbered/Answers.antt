use Rattle.std.proofs.Common.{decimal, subst, ◌∙◌}
use Rattle.std.proofs.lemmas.Result.{err_from_is_err_and, on_err_weaker}
use Rattle.texts.specs.Written.{AppendsPrefix}
use Rattle.texts.proofs.Prefixes.{AppendsPrefix-after, AppendsPrefix-longer}
use Rattle.texts.proofs.writing.numbers.write_numbered.Goals as goal

pub returns-in_err-write_all_bytes-clause-err : goal.returns-in_err-write_all_bytes-clause-err
returns-in_err-write_all_bytes-clause-err g c =
    let p = err_from_is_err_and c.from_residual.result c.from_residual.ensures.1 in
    let held = g.W.Write.contents in
    rw p.1 (AppendsPrefix-longer (held c.args.out.now) (held c.write_all_bytes.new.out) c.args.before.now (decimal c.args.number)
    c.in_err-write_all_bytes.ensures.err)

pub returns-clause-err : goal.returns-clause-err
returns-clause-err g c =
    let held = g.W.Write.contents in
    on_err_weaker c.write_all_bytes-2.result
    (λ part. AppendsPrefix-after (held c.args.out.now) (held c.write_all_bytes.new.out) (held c.write_all_bytes-2.new.out) c.args.before.now (decimal c.args.number)
    c.in_ok-write_all_bytes.ensures.ok
    (subst (AppendsPrefix (held c.write_all_bytes.new.out) (held c.write_all_bytes-2.new.out)) (c.as_bytes.ensures.value ∙ c.format.ensures.text) part))
    c.write_all_bytes-2.ensures.err
