use Rattle.std.proofs.Common.{ap, ap₂, map, ◌∙◌}
use Rattle.mistakes.specs.Near.{near_among}
use Rattle.explanations.proofs.gate_words.near_gate.Goals as goal

pub returns : goal.returns
returns c =
    c.near_among.ensures
    ∙ ap₂ near_among (c.as_slice.ensures.value ∙ c.in_ok-word.ensures.ok) (ap (map (λ gate. gate.now)) c.in_ok-gates.ensures.items)
