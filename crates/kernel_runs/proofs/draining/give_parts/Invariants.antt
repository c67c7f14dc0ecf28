-- The nets so far were drained, and no other, and the stream was given their changes.
use Rattle.std.proofs.Common.{◌≡◌, ◌≢◌, ℕ, ◌<◌, ◌≤◌, map, take, get_or, All}
use Rattle.logic3.specs.Wave.{changes_between}
use Rattle.design.specs.Equations.{value_of}
use Rattle.cmb_kernel.specs.State.{floor_at}
use Rattle.vcd_dump.specs.Spans.{with_parts}
use Rattle.kernel_runs.specs.Drained.{EachFloor, DrainsTo}
use Rattle.kernel_runs.proofs.draining.give_parts.Given as goal

abbrev pub invariant-loop-net : goal.invariant-loop-net
invariant-loop-net l = record {
  drains : DrainsTo l.initial.kernel l.kernel;
  floors : EachFloor l.kernel (λ floor. floor ≤ l.bound);
  drained : All (λ net. floor_at l.kernel.state net ≡ l.bound) (take l.net-index l.nets);
  others : (net : ℕ) → ((k : ℕ) → k < l.net-index → get_or l.nets k 0 ≢ net) → floor_at l.kernel.state net ≡ floor_at l.initial.kernel.state net;
  stream : l.stream
      ≡ with_parts l.initial.stream (map (λ net. changes_between (value_of l.initial.kernel.circuit net) (floor_at l.initial.kernel.state net) l.bound) (take l.net-index l.nets));
}
