use Rattle.std.proofs.Common.{◌≡◌, take}
use Rattle.logic3.specs.Wave.{joined}
use Rattle.cmb_channels.specs.Packed.{changes_said}
use Rattle.gate_process.proofs.kept_wave.WaveformKeptWave.add.Given as goal

abbrev pub invariant-loop-message : goal.invariant-loop-message
invariant-loop-message l = l.self ≡ joined l.fn.self (changes_said (take l.message-index l.news))
