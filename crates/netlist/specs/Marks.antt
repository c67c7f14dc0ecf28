-- Marks on nets: which of them a walk has seen.
use Rattle.std.specs.Prelude.{ℕ, not, Bool, false, IsTrue, List, count_by, slice_index_or}

abbrev pub is_seen : List Bool → ℕ → Bool
is_seen seen net = slice_index_or seen net false

-- the number of nets that weren't seen
abbrev pub unseen : List Bool → ℕ
unseen seen = count_by not seen

-- nets that were seen still are
abbrev pub KeepsSeen : List Bool → List Bool → Type 0
KeepsSeen old new = (net : ℕ) → IsTrue (is_seen old net) → IsTrue (is_seen new net)
