-- How a run ends if the bytes of its writer are known: what its answer is, and what of it has been written.
use Rattle.std.specs.Prelude.{◌≡◌, ℕ, List, Option, Result, Ok, Err, IsOkAnd}
use Rattle.std.specs.Io.KnownBytes.{Keeps}
use Rattle.texts.specs.Written.{AppendsPrefix}
use Rattle.vcd_dump.specs.Faults.{IsFailedWrite}
use Rattle.prepared_runs.specs.declared.fault.SimFault.{SimFault}
use Rattle.prepared_runs.specs.declared.fault.SimFault.TheVariants.{Dump, Memory}

-- a prefix of the answer's text has been written, and nothing if the answer is a fault
abbrev pub WritesPart : {F : Type 0} → Result (List ℕ) F → Option (List ℕ) → Option (List ℕ) → Type 0
WritesPart (Ok text) old new = AppendsPrefix old new text
WritesPart (Err fault) old new = Keeps old new

-- a failed write ended the dump, or a failed allocation the run; any other fault is the answer, and nothing has been written
abbrev pub RunEndsBy : Result (List ℕ) SimFault → Option (List ℕ) → Option (List ℕ) → SimFault → Type 0
RunEndsBy answer old new (Dump fault) = IsFailedWrite fault × IsOkAnd answer (AppendsPrefix old new)
RunEndsBy answer old new Memory = WritesPart answer old new
RunEndsBy answer old new fault = (answer ≡ Err fault) × Keeps old new

-- before a byte is written: the fault is the answer, unless an allocation failed
abbrev pub IsRefusal : {A : Type 0} → Result A SimFault → SimFault → Type 0
IsRefusal answer (Dump fault) = ⊥
IsRefusal answer Memory = Unit {0}
IsRefusal answer fault = answer ≡ Err fault

-- after that: a write or an allocation failed, when a prefix of the text had been written
abbrev pub BreaksOff : Option (List ℕ) → Option (List ℕ) → List ℕ → SimFault → Type 0
BreaksOff old new text (Dump fault) = IsFailedWrite fault × AppendsPrefix old new text
BreaksOff old new text Memory = AppendsPrefix old new text
BreaksOff old new text fault = ⊥
