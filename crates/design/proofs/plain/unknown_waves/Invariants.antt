use Rattle.std.proofs.Common.{◌≡◌, map}
use Rattle.std.specs.List.{range_with_len}
use Rattle.logic3.specs.Wave.{wave_of}
use Rattle.design.specs.Equations.{value_of}
use Rattle.design.proofs.plain.unknown_waves.Given as goal

abbrev pub invariant-loop-net : goal.invariant-loop-net
invariant-loop-net l = l.waves.items ≡ map (λ net. wave_of (value_of l.design.circuit net) 0 0) (range_with_len 0 l._net)
