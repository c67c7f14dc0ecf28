-- The paths of values through the gates of a design, and their lengths in ticks.
use Rattle.std.specs.Prelude.{◌≡◌, ℕ, zero, suc, ◌+◌, ◌<◌, ◌≤◌, max, false, if◌then◌else◌, IsTrue, List, [], ◌∷◌, ◌++◌, length, slice_get, slice_index_or}
use Rattle.std.specs.Option.{option_map_or}
use Rattle.netlist.specs.Netlist.{NetlistView}
use Rattle.design.specs.Circuit.{Net}
use Rattle.design.specs.Design.{DesignView}
use Rattle.circuit_info.specs.Levels.{is_gate_at, level_at, pins_at, IsGateLoop, IsLevelling}

-- the delay of a net
abbrev pub delay_at : DesignView → ℕ → ℕ
delay_at design net = option_map_or (λ (n : Net). n.timing.delay) (slice_get design.circuit net) 0

-- the wire delay of each pin of a net
abbrev pub wires_at : DesignView → ℕ → List ℕ
wires_at design net = option_map_or (λ (n : Net). n.wires) (slice_get design.circuit net) []

-- a path to a net, and its ticks: an input or a flip-flop, and then gates, each with the net before it at a pin. The ticks are the
-- sum of the delays of these nets and of the wires between them
pub data IsPath (design : DesignView) : ℕ → List ℕ → ℕ → Type 0 where
  from_source : (net : ℕ) → is_gate_at design.netlist net ≡ false → IsPath design net (net ∷ []) (delay_at design net)
  over_gate : (net place ticks : ℕ) (path : List ℕ) → IsTrue (is_gate_at design.netlist net) → place < length (pins_at design.netlist net) →
      IsPath design (slice_index_or (pins_at design.netlist net) place 0) path ticks →
      IsPath design net (path ++ net ∷ []) (ticks + slice_index_or (wires_at design net) place 0 + delay_at design net)

-- the last tick at which one of these pins, each with its wire delay, sees what its source shows at the tick given for it
abbrev pub last_seen : (ℕ → ℕ) → List ℕ → List ℕ → ℕ
last_seen ticks (pin ∷ pins) (wire ∷ wires) = max (ticks pin + wire) (last_seen ticks pins wires)
last_seen ticks _ _ = 0

-- the tick at which a net shows what its pins see, given the tick at which each net shows it; other nets have no pins to wait for
abbrev pub shown_at : DesignView → (ℕ → ℕ) → ℕ → ℕ
shown_at design ticks net =
    (if is_gate_at design.netlist net then last_seen ticks (pins_at design.netlist net) (wires_at design net) else 0) + delay_at design net

-- the ticks of the longest path to a net, as far as so many gates show
abbrev pub longest_within : DesignView → ℕ → ℕ → ℕ
longest_within design zero net = delay_at design net
longest_within design (suc gates) net = shown_at design (longest_within design gates) net

-- the ticks of the longest path to a net, if gates form no loop, so that no path has more gates than there are nets
abbrev pub longest_to : DesignView → ℕ → ℕ
longest_to design net = longest_within design (length design.netlist.nets) net

-- each net has a level, and none is above the number of nets
pub record HasNoLoop (netlist : NetlistView) : Type 0 where
  pub levels : List ℕ
  pub levelling : IsLevelling netlist levels
  pub few : (net : ℕ) → level_at levels net ≤ length netlist.nets

-- some gates form a loop
abbrev pub HasLoop : NetlistView → Type 0
HasLoop netlist = (nets : List ℕ) × IsGateLoop netlist nets

-- the ticks of the longest path to each net
pub record AreLongest (design : DesignView) (ticks : List ℕ) : Type 0 where
  pub size : length ticks ≡ length design.netlist.nets
  pub each : (net : ℕ) → net < length design.netlist.nets → slice_index_or ticks net 0 ≡ longest_to design net
