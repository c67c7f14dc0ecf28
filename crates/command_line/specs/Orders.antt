-- What an order gives: its runs and their files, its last tick, and the nets that it names.
use Rattle.std.specs.Prelude.{ℕ, List, [], ◌∷◌, Option, None, Some}
use denote.Ref.{Bor}
use Rattle.netlist.specs.Names.{seen_names}
use Rattle.wave_diff.specs.declared.comparison.Side.{Side}
use Rattle.wave_diff.specs.declared.comparison.Side.TheVariants.{First, Second}
use Rattle.prepared_runs.specs.declared.view.Selection.{Selection}
use Rattle.prepared_runs.specs.declared.view.Selection.TheVariants.{Named}
use Rattle.prepared_runs.specs.RunTexts.{Names}
use Rattle.command_line.specs.declared.order.Order.{Order}
use Rattle.command_line.specs.declared.order.Order.TheVariants.{Run, Plain, Draw, Trace, Frontiers, Why, Stimuli, Info, Cone, Diff, Twin, Check}
use Rattle.command_line.specs.declared.source_options.SourceOptions.{SourceOptions}
use Rattle.command_line.specs.Sources.{Files, file_of_bench, files_of_options, names_of_files}

-- ---- the runs and their files

-- the options of the run on a side; an order of one run has it on the first side
abbrev pub options_on : Order → Side → Option SourceOptions
options_on (Run options view counts) First = Some options
options_on (Plain options view) First = Some options
options_on (Draw options view form) First = Some options
options_on (Trace options horizon idle net) First = Some options
options_on (Frontiers options horizon show) First = Some options
options_on (Why options net tick) First = Some options
options_on (Info options) First = Some options
options_on (Check options horizon) First = Some options
options_on (Diff first second names ticks) First = Some first
options_on (Diff first second names ticks) Second = Some second
options_on (Twin first second net horizon) First = Some first
options_on (Twin first second net horizon) Second = Some second
options_on other side = None

-- the file of a netlist that isn't run
abbrev pub bench_alone : Order → Side → Option (Bor (List ℕ))
bench_alone (Cone bench names) First = Some bench
bench_alone (Stimuli bench drives draws horizon) First = Some bench
bench_alone other side = None

-- the files on a side
abbrev pub files_on : Order → Side → Files
files_on order side = files_of (options_on order side)
  where
    files_of : Option SourceOptions → Files
    files_of (Some options) = files_of_options options
    files_of None = file_of_bench (bench_alone order side)

-- what the texts on a side are called
abbrev pub names_of : Order → Side → Names
names_of order side = names_of_files (files_on order side)

-- ---- the last tick and the nets

abbrev pub last_tick : Order → Option ℕ
last_tick (Run options view counts) = Some view.horizon
last_tick (Plain options view) = Some view.horizon
last_tick (Draw options view form) = Some view.horizon
last_tick (Trace options horizon idle net) = Some horizon
last_tick (Frontiers options horizon show) = Some horizon
last_tick (Why options net tick) = Some tick
last_tick (Check options horizon) = Some horizon
last_tick (Diff first second names ticks) = Some ticks.horizon
last_tick (Twin first second net horizon) = Some horizon
last_tick (Stimuli bench drives draws horizon) = Some horizon
last_tick (Info options) = None
last_tick (Cone bench names) = None

abbrev pub names_shown : Selection → List (List ℕ)
names_shown (Named names) = seen_names names.items
names_shown other = []

abbrev pub name_shown : Option (Bor (List ℕ)) → List (List ℕ)
name_shown None = []
name_shown (Some name) = name.now ∷ []

abbrev pub names_asked : Order → List (List ℕ)
names_asked (Run options view counts) = names_shown view.show
names_asked (Plain options view) = names_shown view.show
names_asked (Draw options view form) = names_shown view.show
names_asked (Trace options horizon idle net) = name_shown net
names_asked (Frontiers options horizon show) = names_shown show
names_asked (Why options net tick) = net.now ∷ []
names_asked (Cone bench names) = seen_names names.items
names_asked (Diff first second names ticks) = seen_names names.items
names_asked (Twin first second net horizon) = net.now ∷ []
names_asked other = []
