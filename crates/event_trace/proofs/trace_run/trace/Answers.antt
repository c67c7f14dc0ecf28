use Rattle.std.proofs.Common.{Result, List, ℕ, IsOkAnd, subst}
use Rattle.std.specs.Io.KnownBytes.{Appends}
use Rattle.std.proofs.lemmas.Result.{IfErr-weaker, on_ok_weaker}
use Rattle.prepared_runs.specs.declared.fault.SimFault.{SimFault}
use Rattle.prepared_runs.specs.Ends.{RunEndsBy}
use Rattle.prepared_runs.specs.Source.{seen_source}
use Rattle.event_trace.proofs.Traces.{whole_of_source}
use Rattle.event_trace.proofs.trace_run.trace.Goals as goal

pub returns-clause-ok : goal.returns-clause-ok
returns-clause-ok g c =
    on_ok_weaker c.trace_shown.result
    (subst (λ (answer : Result (List ℕ) SimFault). IsOkAnd answer (Appends (g.W.Write.contents c.args.out.now) (g.W.Write.contents c.trace_shown.new.out)))
    (whole_of_source (seen_source c.args.source.now) c.args.horizon))
    c.trace_shown.ensures.ok

pub returns-clause-err : goal.returns-clause-err
returns-clause-err g c =
    IfErr-weaker c.trace_shown.result _ _
    (λ fault. subst (λ (answer : Result (List ℕ) SimFault). RunEndsBy answer (g.W.Write.contents c.args.out.now) (g.W.Write.contents c.trace_shown.new.out) fault)
    (whole_of_source (seen_source c.args.source.now) c.args.horizon))
    c.trace_shown.ensures.err
