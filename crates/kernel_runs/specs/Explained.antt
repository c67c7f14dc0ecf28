-- Why a net of a run has its value at a tick.
use Rattle.std.specs.Prelude.{ℕ, List, Result, Ok}
use Rattle.texts.specs.Text.{◌>>=◌}
use Rattle.causes.specs.Text.{why_text}
use Rattle.prepared_runs.specs.declared.fault.SimFault.{SimFault}
use Rattle.prepared_runs.specs.Source.{SourceView, design_of_source, net_or_unknown}

-- the answer to texts, settings, a name and a tick, which is the horizon: the causes, a line each, or the first fault
unfoldable pub why_of_source : SourceView → List ℕ → ℕ → Result (List ℕ) SimFault
why_of_source source name tick = do
  ready ← design_of_source source tick
  net ← net_or_unknown ready.1 name
  Ok (why_text ready.1 net tick)
