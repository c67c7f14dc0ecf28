use Rattle.std.proofs.Common.{◌≡◌, take}
use Rattle.gate_process.proofs.process.unpacked.Given as goal

abbrev pub invariant-loop-message : goal.invariant-loop-message
invariant-loop-message l = l.messages.items ≡ take l.message-index l.news
