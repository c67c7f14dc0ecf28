-- The answer to a question for notes, step by step.
use Rattle.std.proofs.Common.{◌≡◌, ℕ, ◌++◌, Ok, Err, refl}
use Rattle.design.specs.Design.{DesignView}
use Rattle.prepared_runs.specs.declared.fault.SimFault.{SimFault}
use Rattle.prepared_runs.specs.Source.{SourceView, design_of_source}
use Rattle.plain_runs.specs.Noted.{notes_of_source}
use Rattle.plain_runs.specs.Text.{notes_of_design, notes_of_texts}

module _ (source : SourceView) (ticks : ℕ) where
  pub notes_of_source-bad : (fault : SimFault) → design_of_source source ticks ≡ Err fault → notes_of_source source ticks ≡ Err fault
  unfolding notes_of_source
  notes_of_source-bad fault bad = rw bad refl

  pub notes_of_source-good : (horizon : ℕ) (design : DesignView) → design_of_source source ticks ≡ Ok (horizon, design) →
      notes_of_source source ticks ≡ Ok (notes_of_design horizon design ++ notes_of_texts source design)
  unfolding notes_of_source
  notes_of_source-good horizon design made = rw made refl
