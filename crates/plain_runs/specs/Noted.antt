-- The notes of a run.
use Rattle.std.specs.Prelude.{ℕ, List, ◌++◌, Result, Ok}
use Rattle.texts.specs.Text.{◌>>=◌}
use Rattle.prepared_runs.specs.declared.fault.SimFault.{SimFault}
use Rattle.prepared_runs.specs.Source.{SourceView, design_of_source}
use Rattle.plain_runs.specs.Text.{notes_of_design, notes_of_texts}

-- the answer to texts, settings and a horizon: the notes, a line each, or the first fault
unfoldable pub notes_of_source : SourceView → ℕ → Result (List ℕ) SimFault
notes_of_source source horizon = do
  ready ← design_of_source source horizon
  Ok (notes_of_design ready.0 ready.1 ++ notes_of_texts source ready.1)
