-- What a reader returned, if its bytes are known.
use Rattle.std.specs.Prelude.{ℕ, Bool, true, false, List, Option, ◌≡◌, ◌++◌, ◌≤◌, ◌<◌, length}
use Rattle.std.specs.Io.KnownBytes.{Consumes, IsAtEnd, Keeps}
use Rattle.program_io.specs.declared.input.ReadFault.{ReadFault}
use Rattle.program_io.specs.declared.input.ReadFault.TheVariants.{Read, Memory}

-- the reader returned some bytes, it isn't said which
abbrev pub ConsumesSome : Option (List ℕ) → Option (List ℕ) → Type 0
ConsumesSome before after = (given : List ℕ) × Consumes before after given

-- and at least one
abbrev pub ConsumesMore : Option (List ℕ) → Option (List ℕ) → Type 0
ConsumesMore before after = (given : List ℕ) × (0 < length given) × Consumes before after given

-- the text grew by what a reader returned: at most `most` bytes, and none only at the reader's end
pub record ReadsMore (before after : Option (List ℕ)) (old new : List ℕ) (most : ℕ) (more : Bool) : Type 0 where
  pub given : List ℕ
  pub appended : new ≡ old ++ given
  pub consumed : Consumes before after given
  pub within : length given ≤ most
  pub some : more ≡ true → 0 < length given
  pub none : more ≡ false → IsAtEnd after

-- a call of the reader failed and returned nothing, or an allocation failed for what it returned
abbrev pub StopsBy : Option (List ℕ) → Option (List ℕ) → ReadFault → Type 0
StopsBy before after Read = Keeps before after
StopsBy before after Memory = ConsumesMore before after

-- the same after earlier calls. So an allocation can fail only once the reader has returned a byte
abbrev pub ReadingEndsBy : Option (List ℕ) → Option (List ℕ) → ReadFault → Type 0
ReadingEndsBy before after Read = ConsumesSome before after
ReadingEndsBy before after Memory = ConsumesMore before after
