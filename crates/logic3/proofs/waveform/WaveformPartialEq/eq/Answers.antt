use Rattle.std.proofs.Common.{rules, ◌≡◌}
use Rattle.logic3.specs.Wave.{is_same_wave}
use Rattle.logic3.proofs.Equal.{is_same_wave-Decides}
use Rattle.logic3.proofs.waveform.WaveformPartialEq.eq.Goals as goal

pub returns-then-eq-clause-same : goal.returns-then-eq-clause-same
returns-then-eq-clause-same c =
    let value : c.eq-then-eq.result ≡ is_same_wave c.args.self.now c.args.other.now = search rules in
    rw value (is_same_wave-Decides _ _)
