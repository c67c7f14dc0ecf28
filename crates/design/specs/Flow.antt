-- The order in which values flow through a circuit: inputs, gates after the gates at their pins, flip-flops.
use Rattle.std.specs.Prelude.{ℕ, ◌==◌, IsTrue, List, filter, length, map, slice_get}
use Rattle.std.specs.List.{range_with_len}
use Rattle.std.specs.Option.{option_map_or}
use Rattle.netlist.specs.declared.part.Part.{Part}
use Rattle.netlist.specs.declared.part.Part.TheVariants.{Input, Gate, Flop}
use Rattle.netlist.specs.Flow as netlist
use Rattle.design.specs.Circuit.{Net, Circuit}
use Rattle.design.specs.Design.{untimed}

-- inputs come first, then gates, then flip-flops
abbrev pub rank : Part → ℕ
rank Input = 0
rank (Gate kind) = 1
rank Flop = 2

-- the rank of the net with a number; past the last net, a rank that no part has
abbrev pub rank_at : Circuit → ℕ → ℕ
rank_at circuit net = option_map_or (λ (n : Net). rank n.part) (slice_get circuit net) 3

-- the nets of a rank, rising
abbrev pub nets_of_rank : Circuit → ℕ → List ℕ
nets_of_rank circuit wanted = filter (λ net. rank_at circuit net == wanted) (range_with_len 0 (length circuit))

-- a gate drives the net
abbrev pub IsGate : Circuit → ℕ → Type 0
IsGate circuit net = IsTrue (netlist.is_gate_in (map untimed circuit) net)

-- the gate has this net at a pin
abbrev pub Feeds : Circuit → ℕ → ℕ → Type 0
Feeds circuit source gate = netlist.Feeds (map untimed circuit) source gate

-- each gate comes after each gate at its pins, unless values flow back from it to that one
abbrev pub FollowsFlow : Circuit → List ℕ → Type 0
FollowsFlow circuit order = netlist.FollowsFlow (map untimed circuit) order
