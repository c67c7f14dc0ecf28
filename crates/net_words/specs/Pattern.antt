-- Names that have a pattern, such as `bit*`.
use Rattle.std.specs.Prelude.{ℕ, ◌-◌, ◌==◌, ◌&&◌, ◌||◌, Bool, false, if◌then◌else◌, List, [], ◌∷◌, drop, length, map}
use Rattle.std.specs.List.{range_with_len}
use Rattle.texts.specs.Text.{is_empty}

-- some end of a name passes, be it all of the name or the empty one
abbrev pub takes_any : (List ℕ → Bool) → List ℕ → Bool
takes_any passes [] = passes []
takes_any passes (byte ∷ rest) = passes (byte ∷ rest) || takes_any passes rest

-- a name begins with this byte, and the rest passes
abbrev pub takes_one : ℕ → (List ℕ → Bool) → List ℕ → Bool
takes_one byte passes [] = false
takes_one byte passes (other ∷ rest) = other == byte && passes rest

-- a byte of a pattern takes what it stands for, and the rest passes: `*` takes any bytes, and any other byte takes itself
abbrev pub takes : ℕ → (List ℕ → Bool) → List ℕ → Bool
takes byte passes name = if byte == 42 then takes_any passes name else takes_one byte passes name

-- the bytes of a pattern, in their order, take all bytes of a name
abbrev pub has_pattern : List ℕ → List ℕ → Bool
has_pattern [] name = is_empty name
has_pattern (byte ∷ pattern) name = takes byte (has_pattern pattern) name

-- ---- how it is found

-- the last bytes of a name, of this number
abbrev pub last_bytes : List ℕ → ℕ → List ℕ
last_bytes name left = drop (length name - left) name

-- of which of these numbers of last bytes pass
abbrev pub passing : (List ℕ → Bool) → List ℕ → ℕ → List Bool
passing passes name count = map (λ left. passes (last_bytes name left)) (range_with_len 0 count)
