-- How a call ends, by what is known of its texts and writers before and after.
use Rattle.std.specs.Prelude.{ℕ, List, Option, None}
use Rattle.program_io.specs.Options.{KnownTexts}
use Rattle.program_io.specs.Readings.{KnownReadings}
use Rattle.program_io.specs.declared.exit.Exit.{Exit}
use Rattle.nullsim.specs.Command.{Streams}

-- by what was read, and written to standard output and to standard error
abbrev pub Ends : {A B C : Type 0} → (A → KnownReadings) → (B → Option (List ℕ)) → (C → Option (List ℕ)) → (Streams → Streams → Exit → Type 0) → A → A →
    B → B → C → C → Exit → Type 0
Ends readings out err IsEnd texts texts_new writer writer_new errors errors_new exit = IsEnd
    (record { readings = readings texts; out = out writer; err = err errors })
    (record { readings = readings texts_new; out = out writer_new; err = err errors_new })
    exit

-- also by what the texts hold, and by their message on a failed read
abbrev pub EndsBy : {A B C : Type 0} → (A → KnownTexts) → (A → Option (List ℕ)) → (A → KnownReadings) → (B → Option (List ℕ)) → (C → Option (List ℕ)) →
    (KnownTexts → Option (List ℕ) → Streams → Streams → Exit → Type 0) → A → A → B → B → C → C → Exit → Type 0
EndsBy known said readings out err IsEnd texts texts_new = Ends readings out err (IsEnd (known texts) (said texts_new)) texts texts_new

-- by what was written alone
abbrev pub Writes : {B C : Type 0} → (B → Option (List ℕ)) → (C → Option (List ℕ)) → (Streams → Streams → Exit → Type 0) → B → B → C → C → Exit → Type 0
Writes out err IsEnd writer writer_new errors errors_new exit = IsEnd
    (record { readings = None; out = out writer; err = err errors })
    (record { readings = None; out = out writer_new; err = err errors_new })
    exit
