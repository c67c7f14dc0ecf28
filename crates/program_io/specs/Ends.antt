-- How the program ends with a fault, if its writer's bytes are known: what its answer is, and how much of it was written.
use Rattle.std.specs.Prelude.{◌≡◌, ◌⊎◌, ℕ, List, Option, Result, Ok, Err}
use Rattle.std.specs.Io.KnownBytes.{Appends, Keeps}
use Rattle.vcd_dump.specs.declared.fault.DumpFault.{DumpFault}
use Rattle.texts.specs.Written.{AppendsPrefix}
use Rattle.vcd_dump.specs.Faults.{IsFailedWrite}
use Rattle.program_io.specs.declared.program_fault.ProgramFault.{ProgramFault}
use Rattle.program_io.specs.declared.program_fault.ProgramFault.TheVariants.{Read, Output, Memory, Flush}

-- the input is accepted, and its answer is such a one
abbrev pub ForAnswer : {A : Type 0} → (Result A ProgramFault → Type 0) → (A → Type 0) → Type 0
ForAnswer {A = A} IsAnswer P = (answer : A) × IsAnswer (Ok answer) × P answer

-- a prefix of the answer's text was written
abbrev pub PartWentOut : {A : Type 0} → (A → List ℕ) → (Result A ProgramFault → Type 0) → Option (List ℕ) → Option (List ℕ) → Type 0
PartWentOut text_of IsAnswer old new = ForAnswer IsAnswer (λ answer. AppendsPrefix old new (text_of answer))

-- a text that couldn't be read: nothing was written. A failed allocation: nothing, or a prefix of the answer. A failed write: a prefix of
-- the answer. A failed flush: the whole answer. Any other fault is the answer, and nothing was written
abbrev pub ProgramEndsBy : {A : Type 0} → (A → List ℕ) → (Result A ProgramFault → Type 0) → Option (List ℕ) → Option (List ℕ) → ProgramFault → Type 0
ProgramEndsBy text_of IsAnswer old new (Read name) = Keeps old new
ProgramEndsBy text_of IsAnswer old new Memory = Keeps old new ⊎ PartWentOut text_of IsAnswer old new
ProgramEndsBy text_of IsAnswer old new (Output fault) = IsFailedWrite fault × PartWentOut text_of IsAnswer old new
ProgramEndsBy text_of IsAnswer old new Flush = ForAnswer IsAnswer (λ answer. Appends old new (text_of answer))
ProgramEndsBy text_of IsAnswer old new fault = IsAnswer (Err fault) × Keeps old new

-- a write failed after a prefix of a text, or the flush after all of it
abbrev pub WriteEndsBy : Option (List ℕ) → Option (List ℕ) → List ℕ → ProgramFault → Type 0
WriteEndsBy old new text fault =
    ((failed : DumpFault) × (fault ≡ Output failed) × IsFailedWrite failed × AppendsPrefix old new text) ⊎ ((fault ≡ Flush) × Appends old new text)
