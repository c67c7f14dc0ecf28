use Rattle.std.proofs.Common.{◌≡◌, ℕ, List, Err, IfErr, IfOk, IsOkAnd, OnOk, subst}
use Rattle.std.specs.Io.KnownBytes.{Appends}
use Rattle.prepared_runs.specs.declared.fault.SimFault.TheVariants.{Memory}
use Rattle.prepared_runs.specs.declared.view.DumpView.{DumpView}
use Rattle.prepared_runs.specs.Ends.{RunEndsBy}
use Rattle.prepared_runs.specs.Source.{seen_source, MayWantMemory}
use Rattle.kernel_runs.specs.declared.simulation.Report.{Report}
use Rattle.kernel_runs.specs.Simulated.{dump_in, simulated, EndsComplete, ShowsRun, TakesFewRounds}
use Rattle.kernel_runs.proofs.simulation.simulate.Goals as goal

pub returns-clause-ok : goal.returns-clause-ok
returns-clause-ok g c =
    subst (λ (view : DumpView). IfOk c.simulate_with_progress.result (λ (report : Report). IsOkAnd (simulated (seen_source c.args.source.now) view)
    (λ (answer : List ℕ × Report). Appends (g.W.Write.contents c.args.out.now) (g.W.Write.contents c.simulate_with_progress.new.out) answer.0
    × (report ≡ answer.1))))
    c.of.ensures c.simulate_with_progress.ensures.ok

pub returns-clause-shows : goal.returns-clause-shows
returns-clause-shows g c =
    subst (λ (view : DumpView). OnOk c.simulate_with_progress.result (ShowsRun (seen_source c.args.source.now) view
    (g.W.Write.contents c.args.out.now) (g.W.Write.contents c.simulate_with_progress.new.out)))
    c.of.ensures c.simulate_with_progress.ensures.shows

pub returns-clause-rounds : goal.returns-clause-rounds
returns-clause-rounds g c =
    subst (λ (view : DumpView). IfOk c.simulate_with_progress.result (λ (report : Report). TakesFewRounds (seen_source c.args.source.now) view.horizon report))
    c.of.ensures c.simulate_with_progress.ensures.rounds

pub returns-clause-complete : goal.returns-clause-complete
returns-clause-complete g c =
    subst (λ (view : DumpView). OnOk c.simulate_with_progress.result (EndsComplete (seen_source c.args.source.now) view.horizon))
    c.of.ensures c.simulate_with_progress.ensures.complete

pub returns-clause-err : goal.returns-clause-err
returns-clause-err g c =
    subst (λ (view : DumpView). IfErr c.simulate_with_progress.result (RunEndsBy (dump_in (simulated (seen_source c.args.source.now) view))
    (g.W.Write.contents c.args.out.now) (g.W.Write.contents c.simulate_with_progress.new.out)))
    c.of.ensures c.simulate_with_progress.ensures.err

pub returns-clause-memory : goal.returns-clause-memory
returns-clause-memory g c =
    subst (λ (view : DumpView). c.simulate_with_progress.result ≡ Err Memory → MayWantMemory (seen_source c.args.source.now) view.horizon)
    c.of.ensures c.simulate_with_progress.ensures.memory
