-- The longest paths to flip-flops and to outputs, net by net, and their lines.
use Rattle.std.specs.Prelude.{◌≡◌, ℕ, ◌+◌, Bool, false, IsTrue, List, [], ◌∷◌, ◌++◌, codes, decimal, filter, length, map, slice_index_or}
use Rattle.std.specs.List.{range_with_len}
use Rattle.netlist.specs.Netlist.{NetlistView, net_at}
use Rattle.netlist.specs.Part.{is_flop}
use Rattle.netlist.specs.Text.{names_behind}
use Rattle.design.specs.Design.{DesignView}
use Rattle.circuit_info.specs.declared.path_lines.End.{End}
use Rattle.circuit_info.specs.declared.path_lines.End.TheVariants.{Flop, Output}
use Rattle.circuit_info.specs.Counts.{IsFirstGreatest}
use Rattle.circuit_info.specs.Levels.{is_gate_at, pins_at}
use Rattle.circuit_info.specs.Paths.{last_seen, longest_to, wires_at, HasLoop, HasNoLoop}

-- ---- nets

-- the tick at which each of these pins, with its wire delay, sees what its source shows at the tick given for it
abbrev pub seen : (ℕ → ℕ) → List ℕ → List ℕ → List ℕ
seen ticks (pin ∷ pins) (wire ∷ wires) = (ticks pin + wire) ∷ seen ticks pins wires
seen ticks _ _ = []

-- the pin at this place is the first of a net's pins that see what their sources show last
abbrev pub IsLatestPin : DesignView → ℕ → ℕ → Type 0
IsLatestPin design net place = IsFirstGreatest (seen (longest_to design) (pins_at design.netlist net) (wires_at design net)) place

-- the net at that pin
abbrev pub IsLatestSource : DesignView → ℕ → ℕ → Type 0
IsLatestSource design net source = (place : ℕ) × IsLatestPin design net place × (source ≡ slice_index_or (pins_at design.netlist net) place 0)

-- the nets of the longest path to a net: an input or a flip-flop, and then gates, each after the net at its latest pin
pub data IsLongestPath (design : DesignView) : ℕ → List ℕ → Type 0 where
  begins : (net : ℕ) → is_gate_at design.netlist net ≡ false → IsLongestPath design net (net ∷ [])
  passes : (net source : ℕ) (path : List ℕ) → IsTrue (is_gate_at design.netlist net) → IsLatestSource design net source →
      IsLongestPath design source path → IsLongestPath design net (path ++ net ∷ [])

-- ---- ends

abbrev pub is_flop_at : NetlistView → ℕ → Bool
is_flop_at netlist net = is_flop (net_at netlist net).part

-- the nets at which paths end: all flip-flops, or the outputs
abbrev pub ends : NetlistView → End → List ℕ
ends netlist Flop = filter (is_flop_at netlist) (range_with_len 0 (length netlist.nets))
ends netlist Output = netlist.outputs

-- the ticks of the longest path to an end: to what a flip-flop's pin sees, or to what an output shows
abbrev pub ticks_to : DesignView → End → ℕ → ℕ
ticks_to design Flop net = last_seen (longest_to design) (pins_at design.netlist net) (wires_at design net)
ticks_to design Output net = longest_to design net

-- the nets of that path, with the flip-flop as the last one
abbrev pub EndsAt : DesignView → End → ℕ → List ℕ → Type 0
EndsAt design Flop net path =
    (source : ℕ) × IsLatestSource design net source × ((before : List ℕ) × IsLongestPath design source before × (path ≡ before ++ net ∷ []))
EndsAt design Output net path = IsLongestPath design net path

-- ---- lines

abbrev pub words_of : End → List ℕ
words_of Flop = codes "longest-path-to-flip-flop"
words_of Output = codes "longest-path-to-output"

-- the line of a path to an end
abbrev pub path_line : NetlistView → End → ℕ → List ℕ → List ℕ
path_line netlist end ticks path = words_of end ++ codes " " ++ decimal ticks ++ names_behind netlist path ++ codes "\n"

-- the line of the longest path to such an end, the first of those that are as late; none if there is no such end
pub data IsEndLine (design : DesignView) (end : End) (line : List ℕ) : Type 0 where
  no_end : ends design.netlist end ≡ [] → line ≡ [] → IsEndLine design end line
  latest_end : (place : ℕ) (path : List ℕ) → IsFirstGreatest (map (ticks_to design end) (ends design.netlist end)) place →
      EndsAt design end (slice_index_or (ends design.netlist end) place 0) path →
      line ≡ path_line design.netlist end (slice_index_or (map (ticks_to design end) (ends design.netlist end)) place 0) path → IsEndLine design end line

-- the lines of both kinds of ends; none if gates form a loop
pub data IsPathText (design : DesignView) (text : List ℕ) : Type 0 where
  in_loop : HasLoop design.netlist → text ≡ [] → IsPathText design text
  by_ends : (flop_line output_line : List ℕ) → HasNoLoop design.netlist → IsEndLine design Flop flop_line → IsEndLine design Output output_line →
      text ≡ flop_line ++ output_line → IsPathText design text
