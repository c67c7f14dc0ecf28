-- What the stages of the reader make of the lines of a text.
use Rattle.std.specs.Prelude.{ℕ, List, map, flat_map, filter_map, Result}
use Rattle.bench_text.specs.Line as line
use Rattle.bench_text.specs.NetlistOf.{Definition, definition_in, output_in, place_of, undefined_fault, unless, uses_in}
use Rattle.bench_text.specs.Seen.{seen_statement}
use Rattle.netlist.specs.Joined.{seen_net}
use Rattle.netlist.specs.declared.part.Part.{Part}
use Rattle.bench_text.specs.declared.fault.BenchFault.{BenchFault}
use Rattle.bench_text.specs.declared.reader.Wiring.{Wiring}
use Rattle.bench_text.specs.declared.statement.Statement.{Statement}

-- what a line says, with its number
abbrev pub seen_line : ℕ × Statement → ℕ × line.Statement
seen_line (number, said) = (number, seen_statement said)

abbrev pub seen_lines : List (ℕ × Statement) → List (ℕ × line.Statement)
seen_lines lines = map seen_line lines

-- the numbers of the names at the pins of a line, unless one of these isn't among the names
abbrev pub pin_numbers : List (List ℕ) → ℕ → List (List ℕ) → Result (List ℕ) BenchFault
pin_numbers names line pins = unless (undefined_fault names (map (λ pin. (line, pin)) pins)) (map (place_of names) pins)

abbrev pub net_wiring : List (List ℕ) → Definition → Part × List ℕ
net_wiring names definition = (definition.part, map (place_of names) definition.pins)

-- the nets, and the outputs with repeats, by number
pub record WiringView : Type 0 where
  pub nets : List (Part × List ℕ)
  pub outputs : List ℕ

abbrev pub seen_wiring : Wiring → WiringView
seen_wiring found = record { nets = map seen_net found.nets.items; outputs = found.outputs.items }

-- the nets in order of definition, and the outputs in order, by the places of names
abbrev pub wiring : List (List ℕ) → List (ℕ × line.Statement) → WiringView
wiring names lines = record {
  nets = map (net_wiring names) (filter_map definition_in lines);
  outputs = map (place_of names) (filter_map output_in lines);
}

-- the same, unless a line uses a name that isn't among these
abbrev pub wiring_of : List (List ℕ) → List (ℕ × line.Statement) → Result WiringView BenchFault
wiring_of names lines = unless (undefined_fault names (flat_map uses_in lines)) (wiring names lines)
