-- What is shown, as a view whose nets may also be selected by their names.
use Rattle.prepared_runs.specs.declared.view.DumpView.{DumpView}
use Rattle.prepared_runs.specs.declared.view.Selection.{Selection}
use Rattle.prepared_runs.specs.declared.view.Selection.TheVariants as selection
use Rattle.prepared_runs.specs.declared.view.Show.{Show}
use Rattle.prepared_runs.specs.declared.view.Show.TheVariants.{All, Outputs}
use Rattle.prepared_runs.specs.declared.view.View.{View}

-- the selection of the same nets
abbrev pub selection_of : Show → Selection
selection_of All = selection.All
selection_of Outputs = selection.Outputs

-- the view with the same horizon, nets and unit
abbrev pub dump_view : View → DumpView
dump_view view = record { horizon = view.horizon; show = selection_of view.show; unit = view.unit }
