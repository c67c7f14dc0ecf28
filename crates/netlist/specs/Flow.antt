-- How values flow through gates, from net to net.
use Rattle.std.specs.Prelude.{◌≡◌, ℕ, Bool, IsTrue, List, [], take, slice_get, Some, Contains, ◌⊎◌}
use Rattle.netlist.specs.Netlist.{NetView, net_at}
use Rattle.netlist.specs.Part.{is_gate}

-- the net with a number; outputs don't matter
abbrev pub net_in : List NetView → ℕ → NetView
net_in nets number = net_at (record { nets = nets; outputs = [] }) number

-- a gate drives the net
abbrev pub is_gate_in : List NetView → ℕ → Bool
is_gate_in nets net = is_gate (net_in nets net).part

-- the gate has this net at a pin
pub record Feeds (nets : List NetView) (source gate : ℕ) : Type 0 where
  pub by_gate : IsTrue (is_gate_in nets gate)
  pub at_pin : Contains (net_in nets gate).pins source

-- values flow from a net to the gates that have it at a pin, and from there through gates alone
pub data FlowsTo (nets : List NetView) (from : ℕ) : ℕ → Type 0 where
  straight : (to : ℕ) → Feeds nets from to → FlowsTo nets from to
  through : (middle to : ℕ) → FlowsTo nets from middle → Feeds nets middle to → FlowsTo nets from to

-- each gate comes after each gate at its pins, unless values flow back from it to that one
abbrev pub FollowsFlow : List NetView → List ℕ → Type 0
FollowsFlow nets order =
    (place gate source : ℕ) → slice_get order place ≡ Some gate → IsTrue (is_gate_in nets source) → Feeds nets source gate →
    Contains (take place order) source ⊎ FlowsTo nets gate source
