use Rattle.std.proofs.Common.{◌≡◌, [], map, replicate}
use Rattle.drawn_stimuli.proofs.input.no_drives.Given as goal

abbrev pub invariant-loop-net : goal.invariant-loop-net
invariant-loop-net l = map (λ drives. drives.items) l.kept.items ≡ replicate l._net []
