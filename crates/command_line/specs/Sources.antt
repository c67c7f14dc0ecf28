-- The files of a run and its settings, as options give them.
use Rattle.std.specs.Prelude.{ℕ, ◌==◌, if◌then◌else◌, List, [], Option, None, Some, Vec, codes}
use Rattle.std.specs.declared.alloc.Global.{Global}
use denote.Ref.{Bor}
use Rattle.prepared_runs.specs.declared.run_texts.RunTexts.{RunTexts}
use Rattle.prepared_runs.specs.RunTexts.{Names}
use Rattle.prepared_runs.specs.Events.{PicksView, nothing, text, seeded}
use Rattle.prepared_runs.specs.Source.{SourceView}
use Rattle.command_line.specs.declared.source_options.PickOptions.{PickOptions}
use Rattle.command_line.specs.declared.source_options.PickOptions.TheVariants.{Nothing, File, Seeded}
use Rattle.command_line.specs.declared.source_options.SourceOptions.{SourceOptions}

-- ---- the files

-- for each text of a run the name of its file, if it has one
abbrev pub Files : Type 0
Files = RunTexts (Option (Bor (List ℕ)))

-- the file of a schedule
abbrev pub schedule_file : PickOptions → Option (Bor (List ℕ))
schedule_file (File name) = Some name
schedule_file other = None

-- those of the options
abbrev pub files_of_options : SourceOptions → Files
files_of_options options = record {
  bench = Some options.bench;
  delays = options.delays;
  stimuli = options.stimuli;
  schedule = schedule_file options.picks;
}

-- that of a netlist alone
abbrev pub file_of_bench : Option (Bor (List ℕ)) → Files
file_of_bench bench = record { bench = bench; delays = None; stimuli = None; schedule = None }

-- their names; a text without a file has the name of its section in a deck
abbrev pub named_or : List ℕ → Option (Bor (List ℕ)) → List ℕ
named_or section None = section
named_or section (Some name) = name.now

abbrev pub names_of_files : Files → Names
names_of_files files = record {
  bench = named_or (codes "bench") files.bench;
  delays = named_or (codes "delays") files.delays;
  stimuli = named_or (codes "stimuli") files.stimuli;
  schedule = named_or (codes "schedule") files.schedule;
}

-- ---- the source

-- the texts of files that were read
abbrev pub ReadTexts : Type 0
ReadTexts = RunTexts (Vec ℕ Global)

-- what picks events: this text, if a file is named
abbrev pub picks_of_options : PickOptions → List ℕ → PicksView
picks_of_options Nothing schedule = nothing
picks_of_options (File name) schedule = text schedule
picks_of_options (Seeded seed picks) schedule = seeded seed picks

-- the source of these options and texts
abbrev pub source_from : SourceOptions → ReadTexts → SourceView
source_from options texts = record {
  bench = texts.bench.items;
  delays = texts.delays.items;
  stimuli = texts.stimuli.items;
  default_delay = options.delay;
  period = options.period;
  picks = picks_of_options options.picks texts.schedule.items;
}

-- ---- what is noted

-- a seed is given, and no events are drawn
abbrev pub drawn_note : ℕ → List ℕ
drawn_note picks = if picks == 0 then codes "note: --seed has no effect without --picks\n" else []

abbrev pub picks_note : PickOptions → List ℕ
picks_note Nothing = []
picks_note (File name) = []
picks_note (Seeded seed picks) = drawn_note picks
