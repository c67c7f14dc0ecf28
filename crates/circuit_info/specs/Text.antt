-- The text that describes a circuit, line by line.
use Rattle.std.specs.Prelude.{◌≡◌, ℕ, List, ◌++◌, codes, decimal, length, slice_index_or}
use Rattle.std.specs.List.{flat_map}
use Rattle.logic3.specs.declared.gates.GateKind.TheVariants.{And, Nand, Or, Nor, Xor, Xnor, Not, Buf}
use Rattle.netlist.specs.declared.part.Part.{Part}
use Rattle.netlist.specs.declared.part.Part.TheVariants.{Input, Gate, Flop}
use Rattle.netlist.specs.Netlist.{NetlistView, all_pins, name_at}
use Rattle.netlist.specs.Text.{names_behind}
use Rattle.circuit_info.specs.Counts.{fan_ins, gate_count, part_count, IsFanOuts, IsFirstGreatest}
use Rattle.circuit_info.specs.Levels.{greatest, IsLevelling}
use Rattle.circuit_info.specs.Loops.{IsNamedLoop}

-- a word and a number
abbrev pub count_line : List ℕ → ℕ → List ℕ
count_line word count = word ++ codes " " ++ decimal count ++ codes "\n"

-- a word, and the number of nets that a part drives
abbrev pub part_line : NetlistView → List ℕ → Part → List ℕ
part_line netlist word part = count_line word (part_count netlist part)

-- the numbers of nets, pins, inputs, outputs and flip-flops
abbrev pub size_lines : NetlistView → List ℕ
size_lines netlist =
    count_line (codes "nets") (length netlist.nets)
    ++ count_line (codes "pins") (length (all_pins netlist.nets))
    ++ part_line netlist (codes "inputs") Input
    ++ count_line (codes "outputs") (length netlist.outputs)
    ++ part_line netlist (codes "flip-flops") Flop

-- the number of gates, in all and of each kind
abbrev pub gate_lines : NetlistView → List ℕ
gate_lines netlist =
    count_line (codes "gates") (gate_count netlist)
    ++ part_line netlist (codes "AND") (Gate And)
    ++ part_line netlist (codes "NAND") (Gate Nand)
    ++ part_line netlist (codes "OR") (Gate Or)
    ++ part_line netlist (codes "NOR") (Gate Nor)
    ++ part_line netlist (codes "XOR") (Gate Xor)
    ++ part_line netlist (codes "XNOR") (Gate Xnor)
    ++ part_line netlist (codes "NOT") (Gate Not)
    ++ part_line netlist (codes "BUF") (Gate Buf)

-- a word, the greatest of a number that each net has, and the name of the first net that has it
pub record IsGreatestLine (netlist : NetlistView) (word numbers line : List ℕ) : Type 0 where
  pub net : ℕ
  pub first : IsFirstGreatest numbers net
  pub says : line ≡ word ++ codes " " ++ decimal (slice_index_or numbers net 0) ++ codes " " ++ name_at netlist net ++ codes "\n"

-- the names of a loop's nets
abbrev pub loop_line : NetlistView → List ℕ → List ℕ
loop_line netlist nets = codes "loop" ++ names_behind netlist nets ++ codes "\n"

-- the greatest level, or the named loop if some net has no level
pub data IsDepthLine (netlist : NetlistView) (line : List ℕ) : Type 0 where
  by_levels : (levels : List ℕ) → IsLevelling netlist levels → line ≡ count_line (codes "levels") (greatest levels) → IsDepthLine netlist line
  by_loop : (nets : List ℕ) → IsNamedLoop netlist nets → line ≡ loop_line netlist nets → IsDepthLine netlist line

-- the name of a net that no output depends on
abbrev pub unobserved_line : List ℕ → List ℕ
unobserved_line name = codes "unobserved " ++ name ++ codes "\n"

-- a line for each of these nets
abbrev pub unobserved_lines : NetlistView → List ℕ → List ℕ
unobserved_lines netlist nets = flat_map (λ net. unobserved_line (name_at netlist net)) nets

-- the text that describes a netlist with these unobserved nets
pub record IsInfoText (netlist : NetlistView) (unobserved text : List ℕ) : Type 0 where
  pub fan_outs : List ℕ
  pub fan_in_line : List ℕ
  pub fan_out_line : List ℕ
  pub depth_line : List ℕ
  pub counted : IsFanOuts netlist fan_outs
  pub fan_in : IsGreatestLine netlist (codes "fan-in") (fan_ins netlist) fan_in_line
  pub fan_out : IsGreatestLine netlist (codes "fan-out") fan_outs fan_out_line
  pub depth : IsDepthLine netlist depth_line
  pub lines : text ≡ size_lines netlist ++ gate_lines netlist ++ fan_in_line ++ fan_out_line ++ depth_line ++ unobserved_lines netlist unobserved

-- a line for which this holds has been added to the text
pub record AddsLine (P : List ℕ → Type 0) (old new : List ℕ) : Type 0 where
  pub line : List ℕ
  pub holds : P line
  pub added : new ≡ old ++ line
