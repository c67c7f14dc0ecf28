-- Levels of gates, and loops of gates.
use Rattle.std.specs.Prelude.{◌≡◌, ◌≢◌, ℕ, ◌+◌, ◌-◌, ◌<◌, max, Bool, IsTrue, if◌then◌else◌, List, [], ◌∷◌, length, map, slice_index_or, All, AllPairs, Contains}
use Rattle.netlist.specs.Netlist.{NetlistView, net_at}
use Rattle.netlist.specs.Flow.{is_gate_in}

-- a gate drives the net
abbrev pub is_gate_at : NetlistView → ℕ → Bool
is_gate_at netlist net = is_gate_in netlist.nets net

abbrev pub pins_at : NetlistView → ℕ → List ℕ
pins_at netlist net = (net_at netlist net).pins

-- the greatest of some numbers; 0 if there are none
abbrev pub greatest : List ℕ → ℕ
greatest [] = 0
greatest (n ∷ numbers) = max n (greatest numbers)

abbrev pub level_at : List ℕ → ℕ → ℕ
level_at levels net = slice_index_or levels net 0

-- one more than the greatest level of the net's pins
abbrev pub level_above : NetlistView → List ℕ → ℕ → ℕ
level_above netlist levels net = greatest (map (level_at levels) (pins_at netlist net)) + 1

-- inputs and flip-flops have level 0, and each gate is one level above the highest of its pins
pub record IsLevelling (netlist : NetlistView) (levels : List ℕ) : Type 0 where
  pub size : length levels ≡ length netlist.nets
  pub each : (net : ℕ) → net < length netlist.nets →
      level_at levels net ≡ (if is_gate_at netlist net then level_above netlist levels net else 0)

-- each net but the last has the next one at a pin
abbrev pub AreLinked : NetlistView → List ℕ → Type 0
AreLinked netlist nets = (place : ℕ) → place + 1 < length nets →
    Contains (pins_at netlist (slice_index_or nets place 0)) (slice_index_or nets (place + 1) 0)

-- gates, each once, of which each has the next one at a pin, and the last one the first
pub record IsGateLoop (netlist : NetlistView) (nets : List ℕ) : Type 0 where
  pub some : 0 < length nets
  pub gates : All (λ net. IsTrue (is_gate_at netlist net)) nets
  pub once : AllPairs (λ (earlier later : ℕ). earlier ≢ later) nets
  pub linked : AreLinked netlist nets
  pub closed : Contains (pins_at netlist (slice_index_or nets (length nets - 1) 0)) (slice_index_or nets 0 0)
