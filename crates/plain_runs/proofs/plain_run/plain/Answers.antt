use Rattle.std.proofs.Common.{◌≡◌, Err, IfErr, IsOkAnd, OnOk, subst}
use Rattle.std.specs.Io.KnownBytes.{Appends}
use Rattle.prepared_runs.specs.declared.fault.SimFault.TheVariants.{Memory}
use Rattle.prepared_runs.specs.declared.view.DumpView.{DumpView}
use Rattle.prepared_runs.specs.Ends.{RunEndsBy}
use Rattle.prepared_runs.specs.Source.{dump_of_source, seen_source, MayWantMemory}
use Rattle.plain_runs.specs.Shows.{ShowsSource}
use Rattle.plain_runs.proofs.plain_run.plain.Goals as goal

pub returns-clause-ok : goal.returns-clause-ok
returns-clause-ok g c =
    subst (λ (view : DumpView). OnOk c.plain_with_progress.result (IsOkAnd (dump_of_source (seen_source c.args.source.now) view)
    (Appends (g.W.Write.contents c.args.out.now) (g.W.Write.contents c.plain_with_progress.new.out))))
    c.of.ensures c.plain_with_progress.ensures.ok

pub returns-clause-shows : goal.returns-clause-shows
returns-clause-shows g c =
    subst (λ (view : DumpView). OnOk c.plain_with_progress.result (ShowsSource (seen_source c.args.source.now) view
    (g.W.Write.contents c.args.out.now) (g.W.Write.contents c.plain_with_progress.new.out)))
    c.of.ensures c.plain_with_progress.ensures.shows

pub returns-clause-err : goal.returns-clause-err
returns-clause-err g c =
    subst (λ (view : DumpView). IfErr c.plain_with_progress.result (RunEndsBy (dump_of_source (seen_source c.args.source.now) view)
    (g.W.Write.contents c.args.out.now) (g.W.Write.contents c.plain_with_progress.new.out)))
    c.of.ensures c.plain_with_progress.ensures.err

pub returns-clause-memory : goal.returns-clause-memory
returns-clause-memory g c =
    subst (λ (view : DumpView). c.plain_with_progress.result ≡ Err Memory → MayWantMemory (seen_source c.args.source.now) view.horizon)
    c.of.ensures c.plain_with_progress.ensures.memory
