-- What the comparison of the two engines returns.
use Rattle.std.specs.Prelude.{length}
use Rattle.design.specs.Circuit.{pin_count}
use Rattle.kernel_runs.specs.declared.check_run.CheckAnswer.{CheckAnswer}
use Rattle.prepared_runs.specs.Prepared.{RunView}

-- the engines give each net the same waveform
abbrev pub checked : RunView → CheckAnswer
checked run = record {
  nets = length run.design.circuit;
  pins = pin_count run.design.circuit;
  same = length run.design.circuit;
}
