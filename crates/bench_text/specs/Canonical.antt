-- The canonical text of a netlist.
use Rattle.std.specs.Prelude.{ℕ, List, ◌++◌, map, flat_map, Result, Ok, codes}
use Rattle.std.specs.List.{join_by}
use Rattle.logic3.specs.declared.gates.GateKind.TheVariants.{And, Nand, Or, Nor, Xor, Xnor, Not, Buf}
use Rattle.netlist.specs.declared.part.Part.{Part}
use Rattle.netlist.specs.declared.part.Part.TheVariants.{Input, Gate, Flop}
use Rattle.bench_text.specs.declared.fault.BenchFault.{BenchFault}
use Rattle.bench_text.specs.declared.fault.BenchFault.TheVariants.{TooLong}
use Rattle.texts.specs.Text.{unless_too_long}
use Rattle.bench_text.specs.Line.{Statement, defines, names_output}
use Rattle.netlist.specs.Netlist.{NetView, NetlistView, name_at}

-- the keyword of a part
abbrev pub keyword_of : Part → List ℕ
keyword_of Input = codes "INPUT"
keyword_of (Gate And) = codes "AND"
keyword_of (Gate Nand) = codes "NAND"
keyword_of (Gate Or) = codes "OR"
keyword_of (Gate Nor) = codes "NOR"
keyword_of (Gate Xor) = codes "XOR"
keyword_of (Gate Xnor) = codes "XNOR"
keyword_of (Gate Not) = codes "NOT"
keyword_of (Gate Buf) = codes "BUF"
keyword_of Flop = codes "DFF"

-- a line `K(W)`
abbrev pub port_line : List ℕ → List ℕ → List ℕ
port_line keyword name = keyword ++ codes "(" ++ name ++ codes ")"

-- names with a comma and a space between each two
abbrev pub listed : List (List ℕ) → List ℕ
listed names = join_by (λ name. name) (codes ", ") names

-- a line `W = K(list)`
abbrev pub assignment_line : List ℕ → List ℕ → List (List ℕ) → List ℕ
assignment_line name keyword pins = name ++ codes " = " ++ keyword ++ codes "(" ++ listed pins ++ codes ")"

-- the canonical line that says this
abbrev pub canonical_line : Statement → List ℕ
canonical_line (defines name Input pins) = port_line (keyword_of Input) name
canonical_line (defines name (Gate kind) pins) = assignment_line name (keyword_of (Gate kind)) pins
canonical_line (defines name Flop pins) = assignment_line name (keyword_of Flop) pins
canonical_line (names_output name) = port_line (codes "OUTPUT") name

-- these lines, each with its line feed
abbrev pub canonical_lines : List Statement → List ℕ
canonical_lines statements = flat_map (λ said. canonical_line said ++ codes "\n") statements

-- the statement that defines a net
abbrev pub net_statement : NetlistView → NetView → Statement
net_statement netlist net = defines net.name net.part (map (name_at netlist) net.pins)

-- the statement that names an output
abbrev pub output_statement : NetlistView → ℕ → Statement
output_statement netlist output = names_output (name_at netlist output)

-- each net in order, and then each output in order
abbrev pub canonical_statements : NetlistView → List Statement
canonical_statements netlist = map (net_statement netlist) netlist.nets ++ map (output_statement netlist) netlist.outputs

-- the canonical text
unfoldable pub canonical : NetlistView → List ℕ
canonical netlist = canonical_lines (canonical_statements netlist)

-- a text, unless it is too long to be read
abbrev pub within_limit : List ℕ → Result (List ℕ) BenchFault
within_limit text = unless_too_long TooLong Ok text
