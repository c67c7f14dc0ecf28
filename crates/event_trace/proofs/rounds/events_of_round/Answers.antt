use Rattle.std.proofs.Common.{length, ◌∙◌, arith}
use Rattle.event_trace.proofs.Walking.{advances_on}
use Rattle.event_trace.proofs.rounds.events_of_round.Goals as goal

pub loop-net-preserved : goal.loop-net-preserved
loop-net-preserved c =
    advances_on c.loop-net.net (length c.args.design.now.circuit) c.loop-net.events.items c.push.new.self.items (omega arith) c.in_ok-push.ensures.items
    ∙ c.loop-net.invariant
