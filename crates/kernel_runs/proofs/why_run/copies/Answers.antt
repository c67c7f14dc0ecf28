use Rattle.std.proofs.Common.{◌≡◌, ◌<◌, length, ◌∙◌, arith}
use Rattle.kernel_runs.proofs.Causes.{waves_of-all, waves_up_to-more}
use Rattle.kernel_runs.proofs.Diffs.{completed_wave}
use Rattle.kernel_runs.proofs.why_run.copies.Goals as goal

pub loop-net-preserved : goal.loop-net-preserved
loop-net-preserved c =
    let run = c.args.run.now in
    let net = c.loop-net.net in
    let below : net < length run.design.circuit = omega (arith, c.loop-net-test.true, c.nets-net-end.ensures.count) in
    let wave = completed_wave run c.args.kernel.now net c.waveform.result.now c.requires below (c.waveform.ensures.undrained (c.requires.undrained net)) in
    waves_up_to-more run.design.circuit run.horizon net c.loop-net.waves.items c.push.new.self.items _ c.loop-net.invariant (c.in_ok-copy.ensures ∙ wave)
    c.in_ok-push.ensures.items

pub returns : goal.returns
returns c =
    let run = c.args.run.now in
    let all : c.loop-net.net ≡ length run.design.circuit =
    omega (arith, c.loop-net-test.false, c.loop-net.auto.net-end, c.nets-net-end.ensures.count) in
    c.loop-net.invariant ∙ waves_of-all run.design.circuit run.horizon c.loop-net.net all
