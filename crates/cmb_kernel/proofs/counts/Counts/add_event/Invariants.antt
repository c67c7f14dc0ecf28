use Rattle.std.proofs.Common.{◌≡◌, take}
use Rattle.cmb_kernel.specs.Step.{counted}
use Rattle.cmb_kernel.proofs.counts.Counts.add_event.Given as goal

abbrev pub invariant-loop-message : goal.invariant-loop-message
invariant-loop-message l = l.self ≡ counted l.fn.self (take l.message-index l.messages)
