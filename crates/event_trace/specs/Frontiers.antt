-- The table of frontiers by rounds.
use Rattle.std.specs.Prelude.{ℕ, ◌+◌, ◌-◌, max, zero, suc, false, if◌then◌else◌, List, [], ◌∷◌, ◌++◌, length, flat_map, replicate, codes, decimal, Result}
use Rattle.texts.specs.Text.{◌>>=◌}
use Rattle.texts.specs.Written.{line}
use Rattle.design.specs.Circuit.{Circuit}
use Rattle.vcd_dump.specs.Traces.{name_of}
use Rattle.cmb_events.specs.declared.event.Event.{Event}
use Rattle.cmb_kernel.specs.State.{State, KernelView, started, frontier_at, is_complete, most_rounds}
use Rattle.cmb_kernel.specs.Step.{round_of, steps}
use Rattle.prepared_runs.specs.declared.fault.SimFault.{SimFault}
use Rattle.prepared_runs.specs.declared.view.Selection.{Selection}
use Rattle.prepared_runs.specs.Prepared.{RunView, run_of_source}
use Rattle.prepared_runs.specs.Source.{SourceView, if_known, shown_nets}

-- ---- a table

-- a row: its label, and its entry for each net
pub record Row : Type 0 where
  pub label : List ℕ
  pub entry : ℕ → List ℕ

-- the width of the column under a heading, which also holds the number of all ticks
abbrev pub column_width : ℕ → List ℕ → ℕ
column_width end heading = max (length heading) (length (decimal end))

-- a text at the right of its column
abbrev pub cell : ℕ → List ℕ → List ℕ
cell width text = replicate (width - length text) 32 ++ text

-- the heading of the labels
abbrev pub round_heading : List ℕ
round_heading = codes "round"

-- the cell of a label
abbrev pub label_cell : ℕ → List ℕ → List ℕ
label_cell end label = cell (column_width end round_heading) label

-- the cell of a net, two spaces after the one before
abbrev pub net_cell : Circuit → ℕ → (ℕ → List ℕ) → ℕ → List ℕ
net_cell circuit end entry net = codes "  " ++ cell (column_width end (name_of circuit net)) (entry net)

-- the line of a row
abbrev pub row_text : Circuit → ℕ → List ℕ → Row → List ℕ
row_text circuit end nets row = line (label_cell end row.label ++ flat_map (net_cell circuit end row.entry) nets)

-- the table of some nets with these rows
abbrev pub table_text : Circuit → ℕ → List ℕ → List Row → List ℕ
table_text circuit end nets rows = flat_map (row_text circuit end nets) rows

-- ---- its rows

-- the headings
abbrev pub headings : Circuit → Row
headings circuit = record { label = round_heading; entry = name_of circuit }

-- the frontiers in a state
abbrev pub frontiers_row : List ℕ → State → Row
frontiers_row label state = record { label = label; entry = λ net. decimal (frontier_at state net) }

-- those before the first round
abbrev pub start_row : State → Row
start_row state = frontiers_row (codes "start") state

-- those after a round, with its number
abbrev pub round_row : State → Row
round_row state = frontiers_row (decimal state.counts.rounds) state

-- those after each of the fewest rounds that complete a state, up to a limit
abbrev pub rows_within : ℕ → State → List Row
rows_within zero state = []
rows_within (suc count) state = if is_complete state then [] else round_row (round_of state) ∷ rows_within count (round_of state)

-- ---- the table of a run

-- the headings, the frontiers in a kernel's state, and those after each round that completes it
abbrev pub rows_of_kernel : KernelView → List Row
rows_of_kernel kernel =
    headings kernel.circuit ∷ start_row kernel.state ∷ rows_within (most_rounds kernel.end kernel.circuit) kernel.state

-- a kernel to which these events were applied
abbrev pub after_events : Circuit → ℕ → List Event → KernelView
after_events circuit end events = record { circuit = circuit; end = end; failed = false; state = steps (started circuit end) events }

-- the rows of a run by some events, and then by rounds
abbrev pub frontier_rows : Circuit → ℕ → List Event → List Row
frontier_rows circuit end events = rows_of_kernel (after_events circuit end events)

-- the table of the frontiers of some nets
abbrev pub frontier_table : Circuit → ℕ → List Event → List ℕ → List ℕ
frontier_table circuit end events nets = table_text circuit end nets (frontier_rows circuit end events)

-- that of a run's nets which are to be shown
unfoldable pub frontiers_of_run : Selection → RunView → List ℕ
frontiers_of_run show run = frontier_table run.design.circuit (run.horizon + 1) run.events (shown_nets show run.design.netlist)

-- the answer to texts, settings and a choice of nets: the table, or the first fault
unfoldable pub frontiers_of_source : SourceView → ℕ → Selection → Result (List ℕ) SimFault
frontiers_of_source source ticks show = do
  run ← run_of_source source ticks
  if_known show run.design.netlist (frontiers_of_run show run)
