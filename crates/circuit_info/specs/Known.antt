-- The levels that are known, and the walk over nets that have none.
use Rattle.std.specs.Prelude.{◌≡◌, ◌≢◌, ℕ, ◌<◌, ◌==◌, ◌&&◌, ◌↔◌, not, if◌then◌else◌, Bool, IsTrue, List, [], ◌∷◌, ◌++◌, length, drop, slice_index_or, AllPairs, Contains}
use Rattle.netlist.specs.Netlist.{NetlistView}
use Rattle.netlist.specs.Marks.{is_seen}
use Rattle.circuit_info.specs.Levels.{is_gate_at, level_at, level_above}
use Rattle.circuit_info.specs.Loops.{HasLevel, IsWalk}

-- the level of a net is known: no gate has level 0
abbrev pub is_known : NetlistView → List ℕ → ℕ → Bool
is_known netlist levels net = not (is_gate_at netlist net && (level_at levels net == 0))

-- the levels of the pins before a place are known
abbrev pub KnownBefore : NetlistView → List ℕ → List ℕ → ℕ → Type 0
KnownBefore netlist levels pins place =
    (k : ℕ) → k < place → k < length pins → IsTrue (is_known netlist levels (slice_index_or pins k 0))

-- the levels that are known are those of the nets that have one
pub record KnowsLevels (netlist : NetlistView) (levels : List ℕ) : Type 0 where
  pub size : length levels ≡ length netlist.nets
  pub known : (net : ℕ) → IsTrue (is_known netlist levels net) ↔ HasLevel netlist net
  pub each : (net : ℕ) → HasLevel netlist net →
      level_at levels net ≡ (if is_gate_at netlist net then level_above netlist levels net else 0)

-- a walk from the first of these nets over nets without a level, each once, that reaches the second
pub record IsWay (netlist : NetlistView) (start : ℕ) (passed : List Bool) (way : List ℕ) (net : ℕ) : Type 0 where
  pub size : length passed ≡ length netlist.nets
  pub without : HasLevel netlist net → ⊥
  pub first : slice_index_or (way ++ net ∷ []) 0 0 ≡ start
  pub walk : IsWalk netlist (way ++ net ∷ [])
  pub once : AllPairs (λ (earlier later : ℕ). earlier ≢ later) way
  pub passed_so : (other : ℕ) → IsTrue (is_seen passed other) ↔ Contains way other

-- the rest of a way, from this net on
pub record IsRestFrom (way : List ℕ) (net : ℕ) (nets : List ℕ) : Type 0 where
  pub place : ℕ
  pub within : place < length way
  pub first : slice_index_or way place 0 ≡ net
  pub rest : nets ≡ drop place way
