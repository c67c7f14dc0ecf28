-- The texts that were requested, in order, and how each was read.
use Rattle.std.specs.Prelude.{◌≡◌, ℕ, List, [], ◌∷◌, ◌++◌, map, option_map, Option, None, Some, IfSome, Result, Ok, Err}
use denote.Ref.{Bor}
use Rattle.program_io.specs.declared.input.ReadFault.{ReadFault}
use Rattle.command_line.specs.declared.order.Order.{Order}
use Rattle.command_line.specs.Sources.{Files}
use Rattle.wave_diff.specs.declared.comparison.Side.TheVariants.{First, Second}
use Rattle.program_io.specs.declared.program_fault.ProgramFault.{ProgramFault}
use Rattle.command_line.specs.Orders.{files_on}
use Rattle.program_io.specs.ProgramFaults.{fault_of_read}

-- a text that was requested, and why it couldn't be read, if it couldn't
pub record Reading : Type 0 where
  pub name : List ℕ
  pub fault : Option ReadFault

abbrev pub reading_of : {A : Type 0} → List ℕ → Result A ReadFault → Reading
reading_of name (Ok text) = record { name = name; fault = None }
reading_of name (Err fault) = record { name = name; fault = Some fault }

-- what was read so far, if it is known
abbrev pub KnownReadings : Type 0
KnownReadings = Option (List Reading)

abbrev pub with_more : KnownReadings → List Reading → KnownReadings
with_more known more = option_map (λ readings. readings ++ more) known

-- these texts were read after the earlier ones, as far as that is still known
abbrev pub AddsReadings : KnownReadings → KnownReadings → List Reading → Type 0
AddsReadings old new more = IfSome new (λ readings. with_more old more ≡ Some readings)

-- a text that was read to its end
abbrev pub well_read : List ℕ → Reading
well_read name = record { name = name; fault = None }

-- ---- the files of an order, in the order in which they are read

abbrev pub if_named : Option (Bor (List ℕ)) → List (List ℕ)
if_named None = []
if_named (Some name) = name.now ∷ []

abbrev pub names_in : Files → List (List ℕ)
names_in files = if_named files.bench ++ if_named files.delays ++ if_named files.stimuli ++ if_named files.schedule

-- those of a first run before those of a second
abbrev pub files_of : Order → List (List ℕ)
files_of order = names_in (files_on order First) ++ names_in (files_on order Second)

-- ---- how they were read

-- all of them, each to its end
abbrev pub ReadsAll : List (List ℕ) → KnownReadings → KnownReadings → Type 0
ReadsAll files old new = AddsReadings old new (map well_read files)

-- those before this one, which couldn't be read
abbrev pub StopsAt : List (List ℕ) → KnownReadings → KnownReadings → List ℕ → ReadFault → Type 0
StopsAt files old new name fault =
    (before : List (List ℕ)) × ((behind : List (List ℕ)) × (files ≡ before ++ name ∷ behind)
    × AddsReadings old new (map well_read before ++ record { name = name; fault = Some fault } ∷ []))

-- one of them couldn't be read: this is the fault, with its name
abbrev pub StopsBy : List (List ℕ) → KnownReadings → KnownReadings → ProgramFault → Type 0
StopsBy files old new fault =
    (name : Bor (List ℕ)) × ((failed : ReadFault) × (fault ≡ fault_of_read name failed) × StopsAt files old new name.now failed)
