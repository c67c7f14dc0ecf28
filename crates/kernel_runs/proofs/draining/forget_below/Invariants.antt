-- The nets so far were drained.
use Rattle.std.proofs.Common.{◌≡◌, ℕ, ◌≤◌, take, All}
use Rattle.cmb_kernel.specs.State.{floor_at}
use Rattle.kernel_runs.specs.Drained.{EachFloor, DrainsTo}
use Rattle.kernel_runs.proofs.draining.forget_below.Given as goal

abbrev pub invariant-loop-net : goal.invariant-loop-net
invariant-loop-net l = record {
  drains : DrainsTo l.initial.kernel l.kernel;
  floors : EachFloor l.kernel (λ floor. floor ≤ l.bound);
  drained : All (λ net. floor_at l.kernel.state net ≡ l.bound) (take l.net-index l.nets);
  stays : (net : ℕ) → floor_at l.initial.kernel.state net ≡ l.bound → floor_at l.kernel.state net ≡ l.bound;
}
