use Rattle.std.proofs.Common.{◌≡◌, ◌<◌, length, sym, ◌∙◌, arith, true≢false}
use Rattle.logic3.specs.Wave.{is_same_wave_equiv}
use Rattle.kernel_runs.proofs.Checks.{known_wave, length-to_end}
use Rattle.kernel_runs.proofs.check_run.same_waves.Goals as goal
use Rattle.kernel_runs.proofs.check_run.same_waves.Goals.{then-eq, else-eq}

pub waveform-requires-clause-net : goal.waveform-requires-clause-net
waveform-requires-clause-net c = omega (arith, c.loop-net-test.true, length-to_end c.args.kernel.now c.args.waves.now c.requires.waves)

pub overflow_add-same : goal.overflow_add-same
overflow_add-same c =
    omega (arith, c.loop-net.invariant, c.loop-net-test.true, length-to_end c.args.kernel.now c.args.waves.now c.requires.waves, c.requires.few)

pub loop-net-preserved : goal.loop-net-preserved
loop-net-preserved c =
    let kernel = c.args.kernel.now in
    let count = length-to_end kernel c.args.waves.now c.requires.waves in
    let below : c.loop-net.net < length kernel.circuit = omega (arith, c.loop-net-test.true, count) in
    let same : c.waveform.result.now ≡ c.index-waves-net.result =
    c.waveform.ensures.undrained (c.requires.undrained c.loop-net.net) ∙ known_wave kernel c.args.waves.now c.requires.waves c.loop-net.net _ c.requires.known below ∙ sym c.index-waves-net.is in
    elim c.if-eq.branch [
      | then-eq w ↦ omega (arith, w.same-is, c.loop-net.invariant)
      | else-eq w ↦ absurd (true≢false (sym (rw (same, is_same_wave_equiv.refl) at c.eq.ensures) ∙ w.if-eq.false))
    ]

pub returns : goal.returns
returns c =
    omega (arith, c.loop-net.invariant, c.loop-net-test.false, c.loop-net.auto.net-end, length-to_end c.args.kernel.now c.args.waves.now c.requires.waves)
