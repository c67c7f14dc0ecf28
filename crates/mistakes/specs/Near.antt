-- Names that are near to each other: they differ by the case of letters alone, or by one edit.
use Rattle.std.specs.Prelude.{◌≡◌, ◌≢◌, ℕ, ◌⊎◌, ◌==◌, ◌||◌, ◌&&◌, not, nat_le, Bool, false, if◌then◌else◌, List, [], ◌∷◌, ◌++◌, filter, length, bytes_eq, Option, None, Some}
use Rattle.std.specs.List.{list_all, list_any}
use Rattle.std.specs.Char.{is_ascii_digit}
use Rattle.std.specs.Str.{str_eq_ignore_ascii_case}

-- ---- one edit, in which no digit changes

abbrev pub is_no_digit : ℕ → Bool
is_no_digit byte = not (is_ascii_digit byte)

abbrev pub IsNoDigit : ℕ → Type 0
IsNoDigit byte = is_ascii_digit byte ≡ false

-- one byte inserted makes the longer name of the shorter one
pub record IsInserted (shorter longer : List ℕ) : Type 0 where
  pub before : List ℕ
  pub byte : ℕ
  pub after : List ℕ
  pub shorter_is : shorter ≡ before ++ after
  pub longer_is : longer ≡ before ++ byte ∷ after
  pub no_digit : IsNoDigit byte

-- one byte of a name is replaced by another
pub record IsReplaced (one other : List ℕ) : Type 0 where
  pub before : List ℕ
  pub old : ℕ
  pub new : ℕ
  pub after : List ℕ
  pub one_is : one ≡ before ++ old ∷ after
  pub other_is : other ≡ before ++ new ∷ after
  pub differ : old ≢ new
  pub old_no_digit : IsNoDigit old
  pub new_no_digit : IsNoDigit new

-- two neighbours of a name are swapped
pub record IsSwapped (one other : List ℕ) : Type 0 where
  pub before : List ℕ
  pub first : ℕ
  pub second : ℕ
  pub after : List ℕ
  pub one_is : one ≡ before ++ first ∷ second ∷ after
  pub other_is : other ≡ before ++ second ∷ first ∷ after
  pub differ : first ≢ second
  pub first_no_digit : IsNoDigit first
  pub second_no_digit : IsNoDigit second

abbrev pub IsOneEdit : List ℕ → List ℕ → Type 0
IsOneEdit one other = IsInserted one other ⊎ (IsInserted other one ⊎ (IsReplaced one other ⊎ IsSwapped one other))

-- ---- the same as a test

-- the longer name is the shorter one after a byte
abbrev pub inserts_first : List ℕ → List ℕ → Bool
inserts_first shorter [] = false
inserts_first shorter (byte ∷ after) = is_no_digit byte && bytes_eq after shorter

-- the names are the same after their first bytes
abbrev pub replaces_first : List ℕ → List ℕ → Bool
replaces_first (old ∷ after) (new ∷ others) = is_no_digit old && (is_no_digit new && bytes_eq after others)
replaces_first one other = false

-- the names begin with the same two bytes in either order, and are the same after these
abbrev pub swaps_first : List ℕ → List ℕ → Bool
swaps_first (first ∷ second ∷ after) (third ∷ fourth ∷ others) =
    is_no_digit first && (is_no_digit second && (first == fourth && (second == third && bytes_eq after others)))
swaps_first one other = false

-- one edit makes one name of the other, and their first bytes differ
abbrev pub edits_first : List ℕ → List ℕ → Bool
edits_first one other =
    inserts_first one other || (inserts_first other one || (replaces_first one other || swaps_first one other))

-- the edit comes after the bytes with which both names begin
abbrev pub is_one_edit : List ℕ → List ℕ → Bool
is_one_edit (byte ∷ after) (first ∷ others) =
    if byte == first then is_one_edit after others else edits_first (byte ∷ after) (first ∷ others)
is_one_edit one other = edits_first one other

-- ---- near names

-- they differ by the case of letters alone
abbrev pub differ_by_case : List ℕ → List ℕ → Bool
differ_by_case one other = not (bytes_eq one other) && str_eq_ignore_ascii_case one other

-- they differ by one edit, and neither is too short for that to mean something
abbrev pub differ_by_edit : List ℕ → List ℕ → Bool
differ_by_edit one other = nat_le 3 (length one) && (nat_le 3 (length other) && is_one_edit one other)

abbrev pub is_near : List ℕ → List ℕ → Bool
is_near name other = differ_by_case name other || differ_by_edit name other

-- ---- the near name among some

-- those that are near to a name: if any differ by case alone, only these
abbrev pub nearest : List ℕ → List (List ℕ) → List (List ℕ)
nearest name names =
    let near = filter (is_near name) names in
    if list_any (differ_by_case name) near then filter (differ_by_case name) near else near

-- the only one of some names, which may be there more than once
abbrev pub only_one : List (List ℕ) → Option (List ℕ)
only_one [] = None
only_one (name ∷ names) = if list_all (bytes_eq name) names then Some name else None

abbrev pub near_among : List ℕ → List (List ℕ) → Option (List ℕ)
near_among name names = only_one (nearest name names)
