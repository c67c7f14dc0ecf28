-- The nets that the lines of a .bench text define.
use Rattle.std.specs.Prelude.{ℕ, if◌then◌else◌, List, ◌++◌, flat_map, codes, decimal, Option, None}
use Rattle.std.specs.List.{find}
use Rattle.std.specs.Option.{option_to_list}
use Rattle.mistakes.specs.BenchLines.{defined_by, defines, is_assignment}
use Rattle.explanations.specs.AtFault.{number_or_none, quoted_told}
use Rattle.texts.specs.Text.{code_lines}

-- the net that a line defines, if any
abbrev pub net_of_line : ℕ × List ℕ → List (List ℕ)
net_of_line line = option_to_list (defined_by line.1)

-- the nets that the lines of a text define, in their order
abbrev pub nets_in : List ℕ → List (List ℕ)
nets_in text = flat_map net_of_line (code_lines text)

-- the input that a line defines, if any, and those that the lines of a text define
abbrev pub input_by : List ℕ → Option (List ℕ)
input_by code = if is_assignment code then None else defined_by code

abbrev pub input_of_line : ℕ × List ℕ → List (List ℕ)
input_of_line line = option_to_list (input_by line.1)

abbrev pub inputs_in : List ℕ → List (List ℕ)
inputs_in text = flat_map input_of_line (code_lines text)

-- the number of the first line that defines the net, or 0
abbrev pub line_of_net : List ℕ → List ℕ → ℕ
line_of_net net text = number_or_none (find (defines net) (code_lines text))

-- where the net is defined, with the text that is meant
abbrev pub defined_told : List ℕ → List ℕ → List ℕ → List ℕ
defined_told place text net = quoted_told (codes "line " ++ decimal (line_of_net net text) ++ place ++ codes " defines ") net
