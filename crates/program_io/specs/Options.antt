-- The runs that options request, and the texts of their files as they are read.
use Rattle.std.specs.Prelude.{◌≡◌, ℕ, ◌+◌, List, [], take, unwrap_or, Option, None, Some, IfSome}
use denote.Ref.{Bor}
use Rattle.texts.specs.Text.{longest_text}
use Rattle.wave_diff.specs.declared.comparison.Side.{Side}
use Rattle.wave_diff.specs.declared.comparison.Side.TheVariants.{First, Second}
use Rattle.command_line.specs.declared.order.Order.{Order}
use Rattle.command_line.specs.declared.source_options.SourceOptions.{SourceOptions}
use Rattle.program_io.specs.declared.order_texts.OrderTexts.{OrderTexts}
use Rattle.command_line.specs.Sources.{Files, ReadTexts, picks_of_options, schedule_file}
use Rattle.command_line.specs.Orders.{files_on}
use Rattle.prepared_runs.specs.Source.{SourceView}

-- the text under each name, if it is known
abbrev pub KnownTexts : Type 0
KnownTexts = List ℕ → Option (List ℕ)

-- every text is known
abbrev pub all_known : (List ℕ → List ℕ) → KnownTexts
all_known texts name = Some (texts name)

-- the text of a file, if it is known; without a file it is empty
abbrev pub text_named : KnownTexts → Option (Bor (List ℕ)) → Option (List ℕ)
text_named known None = Some []
text_named known (Some name) = known name.now

-- the settings are those of the options, and the texts those of their files, if they are known
pub record IsSourceOf (known : KnownTexts) (options : SourceOptions) (source : SourceView) : Type 0 where
  pub schedule : List ℕ
  pub bench : IfSome (known options.bench.now) (λ all. source.bench ≡ all)
  pub delays : IfSome (text_named known options.delays) (λ all. source.delays ≡ all)
  pub stimuli : IfSome (text_named known options.stimuli) (λ all. source.stimuli ≡ all)
  pub scheduled : IfSome (text_named known (schedule_file options.picks)) (λ all. schedule ≡ all)
  pub delay : source.default_delay ≡ options.delay
  pub period : source.period ≡ options.period
  pub picks : source.picks ≡ picks_of_options options.picks schedule

-- ---- reading the files

-- the text of a file as it is read: whole, or its first 16,777,217 bytes
abbrev pub IsRead : Option (List ℕ) → List ℕ → Type 0
IsRead known read = read ≡ take (longest_text + 1) (unwrap_or known read)

-- the texts of some files, each read in this way
pub record ReadsFiles (known : KnownTexts) (files : Files) (texts : ReadTexts) : Type 0 where
  pub bench : IsRead (text_named known files.bench) texts.bench.items
  pub delays : IsRead (text_named known files.delays) texts.delays.items
  pub stimuli : IsRead (text_named known files.stimuli) texts.stimuli.items
  pub schedule : IsRead (text_named known files.schedule) texts.schedule.items

-- the texts of the files of an order, each read in this way: those of its first run, and those of a second
abbrev pub ReadsOrder : KnownTexts → Order → OrderTexts → Type 0
ReadsOrder known order texts = ReadsFiles known (files_on order First) texts.first × ReadsFiles known (files_on order Second) texts.second

-- the texts on a side
abbrev pub texts_on : OrderTexts → Side → ReadTexts
texts_on texts First = texts.first
texts_on texts Second = texts.second
