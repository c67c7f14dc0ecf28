-- The timing diagram of a run.
use Rattle.std.specs.Prelude.{◌≡◌, ℕ, List, map, if◌then◌else◌, Option, Result, Ok, Err, IsOkAnd}
use Rattle.std.specs.Io.KnownBytes.{Keeps}
use Rattle.texts.specs.Text.{◌>>=◌}
use Rattle.timing_text.specs.Options.{horizon_of}
use Rattle.logic3.specs.declared.value.Value.{Value}
use Rattle.logic3.specs.Wave.{Wave, value_at}
use Rattle.design.specs.Circuit.{Circuit}
use Rattle.design.specs.Equations.{value_of}
use Rattle.timing_diagram.specs.declared.form.Form.{Form}
use Rattle.timing_diagram.specs.Bus.{BusTrace}
use Rattle.timing_diagram.specs.Columns.{Ticks, columns_of}
use Rattle.timing_diagram.specs.Drawing.{drawing}
use Rattle.timing_diagram.specs.WavesPage.{is_too_long}
use Rattle.timing_diagram.specs.declared.fault.ColumnsFault.TheVariants.{TooManyChanges}
use Rattle.vcd_dump.specs.Dump.{Trace}
use Rattle.texts.specs.Written.{AppendsPrefix}
use Rattle.vcd_dump.specs.Faults.{IsFailedWrite}
use Rattle.plain_runs.specs.declared.diagram_fault.DiagramFault.{DiagramFault}
use Rattle.plain_runs.specs.declared.diagram_fault.DiagramFault.TheVariants.{Columns, Run}
use Rattle.prepared_runs.specs.declared.view.DiagramView.{DiagramView}
use Rattle.prepared_runs.specs.declared.fault.SimFault.TheVariants.{Setting, Dump, Memory}
use Rattle.prepared_runs.specs.Ends.{WritesPart}
use Rattle.prepared_runs.specs.Lanes.{BusView, LanesView, lanes_of}
use Rattle.prepared_runs.specs.Source.{SourceView, design_of_source, or_fault, signals_of}

-- the ticks that are drawn, or the first fault
unfoldable pub ticks_of_view : DiagramView → Result Ticks DiagramFault
ticks_of_view view = do
  horizon ← or_fault (λ fault. Run (Setting fault)) (horizon_of view.horizon)
  or_fault Columns (columns_of view.from view.to view.step view.at_end horizon)

-- a bus of nets with what their waveforms show
abbrev pub bus_trace : (ℕ → Wave) → BusView → BusTrace
bus_trace wave bus = (bus.0, map (λ net. value_at (wave net)) bus.1)

-- the buses, each bit with what it shows at each tick
abbrev pub bus_signals : Circuit → List BusView → List BusTrace
bus_signals circuit buses = map (λ (bus : BusView). (bus.0, map (value_of circuit) bus.1)) buses

-- a drawing, or the fault if it has too much for a page
abbrev pub drawing_within : Form → Ticks → List (ℕ → Value) → List Trace → List BusTrace → Result (List ℕ) DiagramFault
drawing_within form ticks signals traces buses =
    if is_too_long form ticks signals buses then Err (Columns TooManyChanges) else Ok (drawing form ticks traces buses)

-- what lanes show at some ticks, drawn, or the fault
unfoldable pub diagram_of_lanes : Form → Ticks → Circuit → LanesView → Result (List ℕ) DiagramFault
diagram_of_lanes form ticks circuit lanes =
    drawing_within form ticks (map (value_of circuit) lanes.nets) (signals_of circuit lanes.nets) (bus_signals circuit lanes.buses)

-- the answer to texts and settings: the diagram, or the first fault
unfoldable pub diagram_of_source : SourceView → DiagramView → Form → Result (List ℕ) DiagramFault
diagram_of_source source view form = do
  ticks ← ticks_of_view view
  ready ← or_fault Run (design_of_source source view.horizon)
  lanes ← or_fault Run (lanes_of view (ready.1).netlist)
  diagram_of_lanes form ticks (ready.1).circuit lanes

-- a failed write ended the diagram, or a failed allocation the run; any other fault is the answer, and nothing has been written
abbrev pub DiagramEndsBy : Result (List ℕ) DiagramFault → Option (List ℕ) → Option (List ℕ) → DiagramFault → Type 0
DiagramEndsBy answer old new (Run (Dump fault)) = IsFailedWrite fault × IsOkAnd answer (AppendsPrefix old new)
DiagramEndsBy answer old new (Run Memory) = WritesPart answer old new
DiagramEndsBy answer old new fault = (answer ≡ Err fault) × Keeps old new
