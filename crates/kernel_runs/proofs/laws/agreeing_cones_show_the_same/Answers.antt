use Rattle.kernel_runs.proofs.Diffs.{agreeing_shown}
use Rattle.kernel_runs.proofs.laws.agreeing_cones_show_the_same.Goals as goal

pub returns : goal.returns
returns c = λ name comparison runs.
    agreeing_shown runs.first runs.second runs.names runs.ticks runs.pair name comparison runs.accepted runs.agrees runs.compared
