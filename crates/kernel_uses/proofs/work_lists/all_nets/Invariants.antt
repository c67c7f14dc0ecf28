-- All nets so far, and no others.
use Rattle.std.proofs.Common.{ℕ, ◌<◌, All}
use Rattle.std.specs.List.{Contains}
use Rattle.kernel_uses.proofs.work_lists.all_nets.Given as goal

abbrev pub invariant-loop-net : goal.invariant-loop-net
invariant-loop-net l = record {
  within : All (λ net. net < l.net) l.nets.items;
  all : (net : ℕ) → net < l.net → Contains l.nets.items net;
}
