-- The answer is the first of the gate words left that passes.
use Rattle.std.proofs.Common.{◌≡◌, map, drop}
use Rattle.std.specs.List.{find}
use Rattle.explanations.specs.Suggestion.{is_numbered}
use Rattle.explanations.proofs.gate_words.numbered_gate.Given as goal

abbrev pub invariant-loop-gate : goal.invariant-loop-gate
invariant-loop-gate l =
    find (is_numbered l.word) (map (λ gate. gate.now) (drop l.gate-index l.gates))
    ≡ find (is_numbered l.word) (map (λ gate. gate.now) l.gates)
