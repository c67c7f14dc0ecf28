-- The walk over the pins of nets: which nets are marked, and which wait for their pins to be looked at.
use Rattle.std.specs.Prelude.{◌≡◌, ℕ, ◌+◌, ◌<◌, ◌==◌, ◌||◌, ◌↔◌, not, Bool, false, IsTrue, List, ◌++◌, length, filter, count_by, slice_index_or, Contains}
use Rattle.std.specs.List.{list_any}
use Rattle.logic3.specs.Rising.{Rises}
use Rattle.netlist.specs.Netlist.{NetlistView, name_at}
use Rattle.netlist.specs.Repeats.{distinct}
use Rattle.fanin_cone.specs.Cone.{InCone}

abbrev pub is_marked : List Bool → ℕ → Bool
is_marked marks net = slice_index_or marks net false

abbrev pub unmarked : List Bool → ℕ
unmarked marks = count_by not marks

-- these nets are marked too, and those that were not before are added at the end of the list, each once
pub record Marks (nets : List ℕ) (old new : List Bool) (before after : List ℕ) : Type 0 where
  pub size : length new ≡ length old
  pub marks : (net : ℕ) → is_marked new net ≡ (is_marked old net || list_any (λ other. net == other) nets)
  pub list : after ≡ before ++ distinct (filter (λ net. not (is_marked old net)) nets)
  pub count : unmarked new + length after ≡ unmarked old + length before

-- the numbers of the marked nets, rising
pub record NumbersMarked (marks : List Bool) (numbers : List ℕ) : Type 0 where
  pub rising : Rises numbers
  pub marked : (net : ℕ) → Contains numbers net ↔ IsTrue (is_marked marks net)

-- exactly the nets in the cone of these names are marked
abbrev pub MarksCone : NetlistView → List (List ℕ) → List Bool → Type 0
MarksCone netlist names marks =
    (net : ℕ) → IsTrue (is_marked marks net) ↔ ((net < length netlist.nets) × InCone netlist names (name_at netlist net))
