use Rattle.std.proofs.Common.{◌≡◌, [], replicate}
use Rattle.kernel_uses.specs.Records.{messages_in}
use Rattle.kernel_uses.proofs.recording.no_messages.Given as goal

abbrev pub invariant-loop-net : goal.invariant-loop-net
invariant-loop-net l = messages_in l.history.items ≡ replicate l._net []
