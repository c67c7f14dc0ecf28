-- How a run ends, from how its parts do.
use Rattle.std.proofs.Common.{ℕ, List, Option, Result, Ok, Err, ◌≡◌, ◌≢◌, refl}
use Rattle.std.specs.Io.KnownBytes.{Keeps}
use Rattle.std.proofs.KnownBytes.{Appends-nil, Appends-kept, Keeps-refl}
use Rattle.vcd_dump.specs.declared.fault.DumpFault.{DumpFault}
use Rattle.vcd_dump.specs.declared.fault.DumpFault.TheVariants as dump
use Rattle.texts.specs.Written.{AppendsPrefix}
use Rattle.prepared_runs.specs.declared.fault.SimFault.{SimFault}
use Rattle.prepared_runs.specs.declared.fault.SimFault.TheVariants.{Dump, Memory}
use Rattle.prepared_runs.specs.Faults.{sim_of_dump}
use Rattle.prepared_runs.specs.Ends.{BreaksOff, RunEndsBy, IsRefusal, WritesPart}

-- a fault of the dump breaks the answer off, unless it only tells of an earlier one
pub BreaksOff-dump : (old new : Option (List ℕ)) (text : List ℕ) (fault : DumpFault) → fault ≢ dump.Failed → AppendsPrefix old new text →
    BreaksOff old new text (sim_of_dump fault)
BreaksOff-dump old new text dump.Write first part = (tt, part)
BreaksOff-dump old new text dump.WroteNothing first part = (tt, part)
BreaksOff-dump old new text dump.Memory first part = part
BreaksOff-dump old new text dump.Failed first part = absurd (first refl)

-- an answer that breaks off ends so
pub RunEndsBy-BreaksOff : (old new : Option (List ℕ)) (text : List ℕ) (fault : SimFault) → BreaksOff old new text fault → RunEndsBy (Ok text) old new fault
RunEndsBy-BreaksOff old new text (Dump fault) part = part
RunEndsBy-BreaksOff old new text Memory part = part
RunEndsBy-BreaksOff old new text _ part = absurd part

-- nothing is a first part of any text
AppendsPrefix-kept : (old new : Option (List ℕ)) (text : List ℕ) → Keeps old new → AppendsPrefix old new text
AppendsPrefix-kept old new text kept = (0, Appends-kept old old new _ (Appends-nil old) kept)

-- memory was wanting before a byte was written
pub BreaksOff-memory : (old : Option (List ℕ)) (text : List ℕ) → BreaksOff old old text Memory
BreaksOff-memory old text = AppendsPrefix-kept old old text (Keeps-refl old)

module _ {F : Type 0} where
  -- whatever the end, what went out is a first part of the answer
  pub WritesPart-kept : (answer : Result (List ℕ) F) (old new : Option (List ℕ)) → Keeps old new → WritesPart answer old new
  WritesPart-kept (Ok text) old new kept = AppendsPrefix-kept old new text kept
  WritesPart-kept (Err fault) old new kept = kept

-- before a byte is written the run ends by what refuses it
pub RunEndsBy-IsRefusal : {A : Type 0} (refused : Result A SimFault) (answer : Result (List ℕ) SimFault) (old : Option (List ℕ)) (fault : SimFault) →
    (refused ≡ Err fault → answer ≡ Err fault) → IsRefusal refused fault → RunEndsBy answer old old fault
RunEndsBy-IsRefusal refused answer old (Dump fault) lifts refusal = absurd refusal
RunEndsBy-IsRefusal refused answer old Memory lifts refusal = WritesPart-kept answer old old (Keeps-refl old)
RunEndsBy-IsRefusal refused answer old _ lifts refusal = (lifts refusal, Keeps-refl old)
