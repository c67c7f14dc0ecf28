-- The names so far are compared, and have their lines.
use Rattle.std.proofs.Common.{take}
use Rattle.netlist.specs.Names.{seen_names}
use Rattle.kernel_runs.specs.Diffs.{IsDiff, pair_by}
use Rattle.prepared_runs.specs.Prepared.{seen_run}
use Rattle.kernel_runs.proofs.net_diffs.diff_completed.Given as goal

abbrev pub invariant-loop-name : goal.invariant-loop-name
invariant-loop-name l =
    IsDiff (pair_by (seen_run l.one) (seen_run l.other) l.ticks (take l.name-index (seen_names l.names))) l.text.items l.same
