-- Two texts, one after the other, of which each may end early.
use Rattle.std.specs.Prelude.{◌++◌, ℕ, List, Option, Result, Ok, Err, OnErr, OnOk}
use Rattle.std.specs.Io.KnownBytes.{Appends}
use Rattle.vcd_dump.specs.declared.fault.DumpFault.{DumpFault}
use Rattle.texts.specs.Written.{AppendsPrefix}

-- a prefix of a text was written, and after it a prefix of another
abbrev pub AppendsParts : Option (List ℕ) → Option (List ℕ) → List ℕ → List ℕ → Type 0
AppendsParts old new text more = (mid : Option (List ℕ)) × AppendsPrefix old mid text × AppendsPrefix mid new more

-- both texts were written whole; after a fault, a prefix of each
abbrev pub AreWritten : {A : Type 0} → Option (List ℕ) → Option (List ℕ) → List ℕ → List ℕ → Result A DumpFault → Type 0
AreWritten old new text more written = OnOk written (Appends old new (text ++ more)) × OnErr written (AppendsParts old new text more)

-- whether both were, by whether each was: the first fault counts
abbrev pub both : {A : Type 0} → Result A DumpFault → Result A DumpFault → Result A DumpFault
both (Ok done) more = more
both (Err fault) more = Err fault
