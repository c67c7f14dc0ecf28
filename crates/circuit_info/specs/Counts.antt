-- Counts of a netlist.
use Rattle.std.specs.Prelude.{◌≡◌, ℕ, ◌<◌, ◌≤◌, ◌==◌, List, length, map, count_by, slice_index_or}
use Rattle.logic3.specs.declared.gates.GateKind.TheVariants.{And, Nand, Or, Nor, Xor, Xnor, Not, Buf}
use Rattle.netlist.specs.declared.part.Part.{Part}
use Rattle.netlist.specs.declared.part.Part.TheVariants.{Input, Gate, Flop}
use Rattle.netlist.specs.Netlist.{NetView, NetlistView, all_pins}
use Rattle.netlist.specs.Part.{is_gate}
use Rattle.netlist.specs.Repeats.{times}

-- a distinct number for each part
abbrev pub part_code : Part → ℕ
part_code Input = 0
part_code (Gate And) = 1
part_code (Gate Nand) = 2
part_code (Gate Or) = 3
part_code (Gate Nor) = 4
part_code (Gate Xor) = 5
part_code (Gate Xnor) = 6
part_code (Gate Not) = 7
part_code (Gate Buf) = 8
part_code Flop = 9

-- the number of nets that this part drives
abbrev pub part_count : NetlistView → Part → ℕ
part_count netlist part = count_by (λ (net : NetView). part_code net.part == part_code part) netlist.nets

-- the number of nets that gates drive
abbrev pub gate_count : NetlistView → ℕ
gate_count netlist = count_by (λ (net : NetView). is_gate net.part) netlist.nets

-- the number of pins of each net
abbrev pub fan_ins : NetlistView → List ℕ
fan_ins netlist = map (λ (net : NetView). length net.pins) netlist.nets

-- the number of pins that a net feeds
abbrev pub fan_out : NetlistView → ℕ → ℕ
fan_out netlist net = times net (all_pins netlist.nets)

-- the number of pins that each net feeds
pub record IsFanOuts (netlist : NetlistView) (counts : List ℕ) : Type 0 where
  pub size : length counts ≡ length netlist.nets
  pub each : (net : ℕ) → net < length netlist.nets → slice_index_or counts net 0 ≡ fan_out netlist net

-- the first place of the greatest number
pub record IsFirstGreatest (numbers : List ℕ) (place : ℕ) : Type 0 where
  pub within : place < length numbers
  pub greatest : (other : ℕ) → other < length numbers → slice_index_or numbers other 0 ≤ slice_index_or numbers place 0
  pub first : (earlier : ℕ) → earlier < place → slice_index_or numbers earlier 0 < slice_index_or numbers place 0
