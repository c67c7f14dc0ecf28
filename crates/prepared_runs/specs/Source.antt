-- Whole runs: the answer to texts and settings, composed of the definitions below.
use Rattle.std.specs.Prelude.{ℕ, ◌≤◌, Bool, true, if◌then◌else◌, List, [], map, length, is_some, Result, Ok, Err, IsOk}
use Rattle.std.specs.List.{range_with_len}
use Rattle.std.specs.Option.{ok_or, unwrap_or}
use Rattle.std.specs.Result.{result_map_both}
use Rattle.logic3.specs.declared.value.Value.{Value}
use Rattle.texts.specs.Text.{◌>>=◌, longest_text}
use Rattle.netlist.specs.Names.{seen_names}
use Rattle.netlist.specs.Netlist.{NetlistView, net_named}
use Rattle.netlist.specs.Repeats.{distinct}
use Rattle.net_words.specs.Listed.{nets_of_words}
use Rattle.bench_text.specs.NetlistOf.{netlist_of}
use Rattle.timing_text.specs.Options.{options_of, horizon_of}
use Rattle.design.specs.Circuit.{Circuit}
use Rattle.design.specs.Design.{DesignView}
use Rattle.design.specs.Build.{design_of}
use Rattle.design.specs.Equations.{value_of}
use Rattle.vcd_dump.specs.Dump.{dump_text}
use Rattle.vcd_dump.specs.Traces.{name_of}
use Rattle.prepared_runs.specs.declared.source.Source.{Source}
use Rattle.prepared_runs.specs.declared.view.DumpView.{DumpView}
use Rattle.prepared_runs.specs.declared.view.Selection.{Selection}
use Rattle.prepared_runs.specs.declared.view.Selection.TheVariants.{All, Outputs, Named}
use Rattle.prepared_runs.specs.declared.fault.SimFault.{SimFault}
use Rattle.prepared_runs.specs.declared.fault.SimFault.TheVariants.{Setting, UnknownNet}
use Rattle.prepared_runs.specs.Faults.{sim_of_bench, sim_of_build}
use Rattle.prepared_runs.specs.Events.{PicksView, seen_picks}

-- the texts and settings of a run, and what picks its events
pub record SourceView : Type 0 where
  pub bench : List ℕ
  pub delays : List ℕ
  pub stimuli : List ℕ
  pub default_delay : ℕ
  pub period : ℕ
  pub picks : PicksView

abbrev pub seen_source : Source → SourceView
seen_source s = record {
  bench = s.bench.now;
  delays = s.delays.now;
  stimuli = s.stimuli.now;
  default_delay = s.default_delay;
  period = s.period;
  picks = seen_picks s.picks;
}

-- the numbers of the nets that a dump shows, in its order; nets that words mean are shown in the order of the words, none twice
abbrev pub shown_nets : Selection → NetlistView → List ℕ
shown_nets All netlist = range_with_len 0 (length netlist.nets)
shown_nets Outputs netlist = netlist.outputs
shown_nets (Named words) netlist = distinct (unwrap_or (nets_of_words netlist (seen_names words.items)) [])

-- each word for nets to be shown means some
abbrev pub knows_shown : Selection → NetlistView → Bool
knows_shown All netlist = true
knows_shown Outputs netlist = true
knows_shown (Named words) netlist = is_some (nets_of_words netlist (seen_names words.items))

-- an answer, unless a net to be shown doesn't exist
abbrev pub if_known : {A : Type 0} → Selection → NetlistView → A → Result A SimFault
if_known show netlist answer = if knows_shown show netlist then Ok answer else Err UnknownNet

-- the names of nets, each with what the net shows at each tick
abbrev pub signals_of : Circuit → List ℕ → List (List ℕ × (ℕ → Value))
signals_of circuit nets = map (λ net. (name_of circuit net, value_of circuit net)) nets

-- the dump of a design up to a horizon
unfoldable pub dump_of_design : DumpView → ℕ → DesignView → List ℕ
dump_of_design view horizon design = dump_text view.unit horizon (signals_of design.circuit (shown_nets view.show design.netlist))

-- the same value, or the fault as another
abbrev pub or_fault : {A F G : Type 0} → (F → G) → Result A F → Result A G
or_fault lifted result = result_map_both (λ value. value) lifted result

-- the number of the net of a name
abbrev pub net_or_unknown : DesignView → List ℕ → Result ℕ SimFault
net_or_unknown design name = ok_or (net_named design.netlist name) UnknownNet

-- a run may run out of memory only if its settings are in their ranges and its netlist's text isn't too long
pub record MayWantMemory (source : SourceView) (ticks : ℕ) : Type 0 where
  pub settings : IsOk (options_of source.default_delay source.period)
  pub horizon : IsOk (horizon_of ticks)
  pub netlist : length source.bench ≤ longest_text

-- the horizon and the design that settings and texts make, or the first fault
unfoldable pub design_of_source : SourceView → ℕ → Result (ℕ × DesignView) SimFault
design_of_source source ticks = do
  settings ← or_fault Setting (options_of source.default_delay source.period)
  horizon ← or_fault Setting (horizon_of ticks)
  netlist ← or_fault sim_of_bench (netlist_of source.bench)
  design ← or_fault sim_of_build (design_of netlist source.delays source.stimuli source.default_delay source.period)
  Ok (horizon, design)

-- the answer to texts and settings: the dump, or the first fault
unfoldable pub dump_of_source : SourceView → DumpView → Result (List ℕ) SimFault
dump_of_source source view = do
  ready ← design_of_source source view.horizon
  if_known view.show (ready.1).netlist (dump_of_design view ready.0 ready.1)
