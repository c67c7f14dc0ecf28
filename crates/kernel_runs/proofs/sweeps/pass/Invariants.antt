-- The segments before `begin` were swept, and the others cover the rest of the order.
use Rattle.std.proofs.Common.{drop, length, take}
use Rattle.design.specs.Segments.{LieBetween}
use Rattle.cmb_kernel.specs.State.{least_frontier}
use Rattle.kernel_runs.specs.Paces.{AllFarther, GoesOn}
use Rattle.kernel_runs.proofs.sweeps.pass.Given as goal

abbrev pub invariant-loop-segment : goal.invariant-loop-segment
invariant-loop-segment g l = record {
  goes : GoesOn l.fn.kernel l.kernel;
  farther : AllFarther l.fn.kernel (least_frontier l.fn.kernel.end l.fn.kernel.state) l.kernel.state (take l.begin l.order);
  left : LieBetween l.fn.kernel.circuit l.order l.begin (drop l.segment-index l.segments) (length l.order);
}
