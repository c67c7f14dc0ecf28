use Rattle.std.proofs.Common.{arith, ◌≡◌, length}
use Rattle.design.specs.Equations.{waves_of}
use Rattle.design.proofs.Ticks.{unknown-more}
use Rattle.design.proofs.plain.unknown_waves.Goals as goal

pub loop-net-preserved : goal.loop-net-preserved
loop-net-preserved c =
    let more = unknown-more c.args.design.now.circuit c.loop-net._net in
    let pushed = c.in_ok-push.ensures.items in
    cc

pub returns : goal.returns
unfolding waves_of
returns c =
    let all : c.loop-net._net ≡ length c.args.design.now.circuit = omega arith in
    rw (← all) c.loop-net.invariant
