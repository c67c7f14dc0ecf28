-- Text that is written: lines and numbers, and what a writer has received.
use Rattle.std.specs.Prelude.{◌≡◌, ℕ, List, ◌++◌, take, Option, codes, decimal}
use Rattle.std.specs.Io.KnownBytes.{Appends}

-- a line: a text and a line feed
abbrev pub line : List ℕ → List ℕ
line text = text ++ codes "\n"

-- a number after a text
abbrev pub numbered : List ℕ → ℕ → List ℕ
numbered text number = text ++ decimal number

-- known bytes grow by a prefix of the text
abbrev pub AppendsPrefix : Option (List ℕ) → Option (List ℕ) → List ℕ → Type 0
AppendsPrefix old new text = (n : ℕ) × Appends old new (take n text)

-- the least length in bytes of a waiting text that is written before it is complete
abbrev pub piece_bytes : ℕ
piece_bytes = 65_536

-- known bytes grew by a prefix of a text, and the rest of it is still waiting
pub record GoesOut (old new : Option (List ℕ)) (text waiting : List ℕ) : Type 0 where
  pub went : List ℕ
  pub sent : Appends old new went
  pub whole : went ++ waiting ≡ text
