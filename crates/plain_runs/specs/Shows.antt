-- What the dump of a run shows.
use Rattle.std.specs.Prelude.{◌≡◌, ℕ, List, [], Option, Some, IfSome, IsOkAnd}
use Rattle.prepared_runs.specs.declared.view.DumpView.{DumpView}
use Rattle.prepared_runs.specs.Source.{SourceView, design_of_source}
use Rattle.prepared_runs.specs.Viewed.{ShowsValues}

-- if nothing was written before, what is written now shows the values of the design that texts and settings make
abbrev pub ShowsSource : SourceView → DumpView → Option (List ℕ) → Option (List ℕ) → Type 0
ShowsSource source view old new =
    old ≡ Some [] → IfSome new (λ text. IsOkAnd (design_of_source source view.horizon) (λ ready. ShowsValues view ready.1 text))
