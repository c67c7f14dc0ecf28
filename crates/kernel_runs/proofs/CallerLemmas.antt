-- What crates above may cite of the lemmas of this one.
pub use Rattle.kernel_runs.proofs.Completed.{run_completes, run_completes_on}
pub use Rattle.kernel_runs.proofs.Isolated.{same_values}
pub use Rattle.kernel_runs.proofs.Diffs.{one_diff}
