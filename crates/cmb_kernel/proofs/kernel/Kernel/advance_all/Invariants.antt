use Rattle.std.proofs.Common.{◌≡◌, map}
use Rattle.std.specs.List.{range_with_len}
use Rattle.cmb_events.specs.declared.event.Event.TheVariants.{Advance}
use Rattle.cmb_kernel.specs.Step.{steps}
use Rattle.cmb_kernel.proofs.kernel.Kernel.advance_all.Given as goal

abbrev pub invariant-loop-net : goal.invariant-loop-net
invariant-loop-net g l = l.self ≡ record l.fn.self { state = steps l.fn.self.state (map Advance (range_with_len 0 l.net)) }
