use Rattle.timing_diagram.proofs.Folds.{short-stays}
use Rattle.timing_diagram.proofs.laws.short_drawings_stay.Goals as goal

pub returns : goal.returns
returns c = short-stays
