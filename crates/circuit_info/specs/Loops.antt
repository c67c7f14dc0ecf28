-- Which nets have levels, and the loop that is named if some have none.
use Rattle.std.specs.Prelude.{◌≡◌, ◌≢◌, ℕ, ◌+◌, ◌-◌, ◌<◌, ◌≤◌, false, IsTrue, List, ◌++◌, length, take, slice_index_or, All, AllPairs, Contains}
use Rattle.netlist.specs.Netlist.{NetlistView}
use Rattle.circuit_info.specs.declared.levels.Depths.{Depths}
use Rattle.circuit_info.specs.declared.levels.Depths.TheVariants.{Levels, Loop}
use Rattle.circuit_info.specs.Levels.{is_gate_at, level_at, pins_at, IsLevelling}

-- an input or a flip-flop has a level, and so has a gate if the nets at all of its pins have one
pub data HasLevel (netlist : NetlistView) : ℕ → Type 0 where
  at_source : (net : ℕ) → is_gate_at netlist net ≡ false → HasLevel netlist net
  above_pins : (net : ℕ) → IsTrue (is_gate_at netlist net) → ((pin : ℕ) → Contains (pins_at netlist net) pin → HasLevel netlist pin) →
      HasLevel netlist net

-- the least net that has no level
pub record IsLeastWithout (netlist : NetlistView) (net : ℕ) : Type 0 where
  pub without : HasLevel netlist net → ⊥
  pub least : (other : ℕ) → other < net → HasLevel netlist other

-- a step from a net to the net at the first of its pins that has no level
pub record LeadsOn (netlist : NetlistView) (net next : ℕ) : Type 0 where
  pub place : ℕ
  pub within : place < length (pins_at netlist net)
  pub at_pin : slice_index_or (pins_at netlist net) place 0 ≡ next
  pub without : HasLevel netlist next → ⊥
  pub first : All (HasLevel netlist) (take place (pins_at netlist net))

-- there is such a step from each net to the next one
abbrev pub IsWalk : NetlistView → List ℕ → Type 0
IsWalk netlist nets = (place : ℕ) → place + 1 < length nets →
    LeadsOn netlist (slice_index_or nets place 0) (slice_index_or nets (place + 1) 0)

-- the walk from the least net without a level, until a net repeats: the nets from that one on, after the way to it
pub record IsNamedLoop (netlist : NetlistView) (nets : List ℕ) : Type 0 where
  pub way : List ℕ
  pub some : 0 < length nets
  pub least : IsLeastWithout netlist (slice_index_or (way ++ nets) 0 0)
  pub walk : IsWalk netlist (way ++ nets)
  pub once : AllPairs (λ (earlier later : ℕ). earlier ≢ later) (way ++ nets)
  pub closed : LeadsOn netlist (slice_index_or nets (length nets - 1) 0) (slice_index_or nets 0 0)

-- the levels of a netlist's nets, or the loop that is named
abbrev pub IsDepths : NetlistView → Depths → Type 0
IsDepths netlist (Levels levels) = IsLevelling netlist levels.items
IsDepths netlist (Loop nets) = IsNamedLoop netlist nets.items

-- no level is above the number of nets
abbrev pub HasFewLevels : NetlistView → Depths → Type 0
HasFewLevels netlist (Levels levels) = (net : ℕ) → level_at levels.items net ≤ length netlist.nets
HasFewLevels netlist (Loop nets) = Unit {0}
