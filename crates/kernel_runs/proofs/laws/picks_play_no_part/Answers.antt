use Rattle.kernel_runs.proofs.Reports.{dump_of_source-simulated}
use Rattle.kernel_runs.proofs.laws.picks_play_no_part.Goals as goal

pub returns : goal.returns
returns c = dump_of_source-simulated
