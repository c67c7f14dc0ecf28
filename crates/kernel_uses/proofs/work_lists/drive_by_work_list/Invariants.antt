-- Each net is on the list or has nothing to do.
use Rattle.std.proofs.Common.{◌+◌, ◌*◌, ◌<◌, All, length}
use Rattle.design.specs.Circuit.{pin_count}
use Rattle.cmb_kernel.specs.Useful.{remaining}
use Rattle.kernel_uses.specs.Runs.{IsLed}
use Rattle.kernel_uses.proofs.Listed.{AllListed}
use Rattle.kernel_uses.proofs.work_lists.drive_by_work_list.Given as goal

abbrev pub invariant-loop-net : goal.invariant-loop-net
invariant-loop-net g l = record {
  led : IsLed l.fn.kernel l.kernel;
  within : All (λ net. net < length l.fn.kernel.circuit) l.work.items;
  listed : AllListed l.fn.kernel.circuit l.kernel.state l.work.items;
}

abbrev pub decreases-loop-net : goal.decreases-loop-net
decreases-loop-net g l = remaining l.fn.kernel.circuit l.fn.kernel.end l.kernel.state * (pin_count l.fn.kernel.circuit + 1) + length l.work.items
