use Rattle.timing_diagram.proofs.Counted.{past_limit}
use Rattle.timing_diagram.specs.WavesPage.{most_values}
use Rattle.timing_diagram.proofs.waves_page.has_too_many.Goals as goal

pub returns : goal.returns
returns c = past_limit most_values _ _ c.counted-nets.result c.counted_buses-all.result c.counted-nets.ensures.counted c.counted_buses-all.ensures
