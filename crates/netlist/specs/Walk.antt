-- The walk from gates back over their pins: which nets were seen, the gates on its path, and those that it has left.
use Rattle.std.specs.Prelude.{◌≡◌, ℕ, ◌+◌, ◌<◌, ◌&&◌, Bool, false, IsTrue, if◌then◌else◌, List, length, map, slice_index_or, All, AllPairs}
use Rattle.netlist.specs.declared.order.Step.{Step}
use Rattle.netlist.specs.Netlist.{NetView}
use Rattle.netlist.specs.Repeats.{times}
use Rattle.netlist.specs.Marks.{is_seen}
use Rattle.netlist.specs.Flow.{net_in, is_gate_in, FlowsTo, FollowsFlow}

-- the pins before a place were seen
abbrev pub SeenBefore : List Bool → List ℕ → ℕ → Type 0
SeenBefore seen pins place = (k : ℕ) → k < place → k < length pins → IsTrue (is_seen seen (slice_index_or pins k 0))

abbrev pub HasLooked : List NetView → List Bool → Step → Type 0
HasLooked nets seen step = SeenBefore seen (net_in nets step.gate).pins step.place

abbrev pub gates_on : List Step → List ℕ
gates_on path = map (λ (step : Step). step.gate) path

-- the gates that were seen are on the path or were left, each once; values flow from each gate on the path to those before it
pub record IsWalk (nets : List NetView) (seen : List Bool) (path : List Step) (left : List ℕ) : Type 0 where
  pub size : length seen ≡ length nets
  pub gates : (net : ℕ) → net < length nets → is_seen seen net ≡ false → IsTrue (is_gate_in nets net)
  pub each : (net : ℕ) →
      times net left + times net (gates_on path) ≡ (if is_gate_in nets net && is_seen seen net then 1 else 0)
  pub looked : All (HasLooked nets seen) path
  pub hangs : AllPairs (λ (below above : Step). FlowsTo nets above.gate below.gate) path
  pub follows : FollowsFlow nets left
