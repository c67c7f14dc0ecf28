use Rattle.std.proofs.Common.{OnErr, subst}
use Rattle.texts.specs.Written.{AppendsPrefix}
use Rattle.vcd_dump.specs.Spans.{StreamView, last_text}
use Rattle.vcd_dump.proofs.stream.Stream.finish.Goals as goal

pub returns-clause-err : goal.returns-clause-err
returns-clause-err g c =
    let held = g.W.Write.contents in
    subst
    (λ (s : StreamView). OnErr c.write_last_time.result (AppendsPrefix (held c.args.out.now) (held c.write_last_time.new.out) (last_text s)))
    c.self.view_is c.write_last_time.ensures.err
