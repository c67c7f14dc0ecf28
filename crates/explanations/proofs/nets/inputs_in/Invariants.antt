-- The inputs so far, and those of the lines left, are the inputs of the text.
use Rattle.std.proofs.Common.{◌≡◌, ◌++◌, flat_map, map}
use Rattle.explanations.specs.Nets.{input_of_line, inputs_in}
use Rattle.explanations.proofs.nets.inputs_in.Given as goal

abbrev pub invariant-loop-code : goal.invariant-loop-code
invariant-loop-code l =
    map (λ input. input.now) l.inputs.items ++ flat_map input_of_line l.code-iterator ≡ inputs_in l.text
