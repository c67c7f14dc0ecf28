use Rattle.std.proofs.Common.{ap}
use Rattle.prepared_runs.specs.Events.{nothing}
use Rattle.prepared_runs.specs.Source.{SourceView}
use Rattle.nullsim.proofs.notes.noted_source.Goals as goal

pub returns : goal.returns
returns c = ap (λ (source : SourceView). record source { picks = nothing }) c.source.ensures
