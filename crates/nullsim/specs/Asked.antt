-- How the program ends for what arguments ask for.
use Rattle.std.specs.Prelude.{◌≡◌, ◌⊎◌, ℕ, Bool, true, false, List, Option, Result, Ok, Err, IfErr, String, IsTrue}
use Rattle.std.specs.declared.alloc.Global.{Global}
use Rattle.explanations.specs.declared.table.Table.{Table}
use Rattle.explanations.specs.Explained.{AreTables, all_names, explained}
use Rattle.command_line.specs.declared.order.Order.{Order}
use Rattle.program_io.specs.Options.{KnownTexts}
use Rattle.program_io.specs.declared.exit.Exit.{Exit}
use Rattle.command_line.specs.declared.words.Asked.{Asked}
use Rattle.command_line.specs.declared.words.Asked.TheVariants as asked
use Rattle.command_line.specs.declared.words.NoOrder.{NoOrder}
use Rattle.command_line.specs.Words.{HelpsIfAsked}
use Rattle.nullsim.specs.Command.{Explains, Streams, TextMade, VersionGiven}
use Rattle.nullsim.specs.Progress.{OrderExplained, OrderReported}
use Rattle.nullsim.specs.Version.{asks_for_version}

module _ (tables : List Table) where
  -- an order is carried out; if requested, its fault is explained by the tables, and its progress is reported
  abbrev pub OrderEnds : Bool → Bool → Order → KnownTexts → Option (List ℕ) → Streams → Streams → Exit → Type 0
  OrderEnds false progress order known said old new exit = OrderReported progress known order old new exit
  OrderEnds true progress order known said old new exit = OrderExplained progress tables order known said old new exit

  -- or the explanation of the faults with a name, or the names of all faults, is printed by the tables, and no file is read
  abbrev pub AskedEnds : Asked → KnownTexts → Option (List ℕ) → Streams → Streams → Exit → Type 0
  AskedEnds (asked.Order order verbose progress) known said old new exit = OrderEnds verbose progress order known said old new exit
  AskedEnds (asked.Explanation name) known said old new exit =
      (new.readings ≡ old.readings) × TextMade (explained tables name.now) old.out new.out old.err new.err exit
  AskedEnds asked.FaultNames known said old new exit =
      (new.readings ≡ old.readings) × TextMade (all_names tables) old.out new.out old.err new.err exit

  -- or the help is printed, or what is wrong with the arguments, and no file is read
  abbrev pub WordsEnd : Result Asked NoOrder → KnownTexts → Option (List ℕ) → Streams → Streams → Exit → Type 0
  WordsEnd (Ok what) known said old new exit = AskedEnds what known said old new exit
  WordsEnd (Err other) known said old new exit = (new.readings ≡ old.readings) × Explains old.out new.out old.err new.err other exit

-- the arguments ask for the version, for something else, or are wrong; the texts know the system's message on a failed read
abbrev pub CommandEnds : List (String Global) → KnownTexts → Option (List ℕ) → Streams → Streams → Exit → Type 0
CommandEnds words known said old new exit =
    (IsTrue (asks_for_version words) × VersionGiven old new exit)
    ⊎ ((tables : List Table) × AreTables tables
    × ((asked : Result Asked NoOrder) × IfErr asked (HelpsIfAsked words) × WordsEnd tables asked known said old new exit))
