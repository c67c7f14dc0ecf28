-- What crates above may cite of the lemmas of this one.
pub use Rattle.prepared_runs.proofs.Answer.{IsRefusal-bench, IsRefusal-lifted, dump_of_source-bad, dump_of_source-good, dump_of_source-unknown, unknown_for}
pub use Rattle.prepared_runs.proofs.Ends.{BreaksOff-dump, BreaksOff-memory, RunEndsBy-BreaksOff, RunEndsBy-IsRefusal, WritesPart-kept}
pub use Rattle.prepared_runs.proofs.MeantNets.{AreLanes, AreLanes-lanes_of}
pub use Rattle.prepared_runs.proofs.Runs.{ShowsValues-run_of_source, ready_of_run}
pub use Rattle.prepared_runs.proofs.ShownNets.{All-before, All-shown_nets, All-within, AllPairs-shown_nets, below_circuit, few-shown_nets, map-wave_at, named, waves_of-all}
pub use Rattle.prepared_runs.proofs.Signals.{dump_of_design-nets, dump_of_design-waves, traces-map}
pub use Rattle.prepared_runs.proofs.Viewed.{IfSome-appended, IsReady-design_of_source, ShowsValues-design_of_source, ShowsValues-dump_of_source, name_is}
pub use Rattle.prepared_runs.proofs.Endings.{AppendsPrefix-progress}
pub use Rattle.prepared_runs.proofs.Reporting.{Reported-more, Reported-weaker, RisesFrom, progress-behind, progress-nothing, progress_from-nothing, reports-next, rises_last, rises_next, rises_nothing, rises_stopped, tick_by_tick-behind, tick_by_tick-nothing, tick_by_tick-stopped}
