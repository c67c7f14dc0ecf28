use Rattle.std.proofs.Common.{◌≡◌, [], map, replicate}
use Rattle.timing_text.proofs.stimuli.no_changes.Given as goal

abbrev pub invariant-loop-net : goal.invariant-loop-net
invariant-loop-net l = map (λ changes. changes.items) l.stimuli.items ≡ replicate l._net []
