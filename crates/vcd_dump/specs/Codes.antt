-- The identifier codes of a dump.
use Rattle.std.specs.Prelude.{◌≡◌, ℕ, zero, suc, ◌+◌, ◌-◌, ◌/◌, ◌%◌, ◌<◌, nat_lt, if◌then◌else◌, List, [], ◌∷◌, length, slice_index_or}

-- the code of a place, with a limit on its characters: one of the 94 from '!' to '~', and from place 94 on a code after it
abbrev pub code_within : ℕ → ℕ → List ℕ
code_within zero place = []
code_within (suc characters) place =
    let behind = code_within characters (place / 94 - 1) in
    (33 + place % 94) ∷ (if nat_lt place 94 then [] else behind)

-- the identifier code of a place
abbrev pub code_at : ℕ → List ℕ
code_at place = code_within (place + 1) place

-- the codes of the first places, in order
abbrev pub AreCodes : List (List ℕ) → Type 0
AreCodes known = (place : ℕ) (other : List ℕ) → place < length known → slice_index_or known place other ≡ code_at place
