use Rattle.prepared_runs.proofs.CallerLemmas.{ShowsValues-dump_of_source}
use Rattle.kernel_runs.proofs.laws.dump_shows_values.Goals as goal

pub returns : goal.returns
returns c = ShowsValues-dump_of_source
