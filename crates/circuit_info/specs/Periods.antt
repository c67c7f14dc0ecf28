-- Flip-flops whose period is too short for the longest path to their pin.
use Rattle.std.specs.Prelude.{ℕ, zero, suc, ◌+◌, ◌<◌, ◌||◌, ◌&&◌, not, nat_lt, Bool, IsTrue, if◌then◌else◌, List, [], filter, length, slice_get, slice_index_or}
use Rattle.std.specs.List.{list_all, range_with_len}
use Rattle.std.specs.Option.{option_map_or}
use Rattle.netlist.specs.Netlist.{NetlistView}
use Rattle.design.specs.Circuit.{Net}
use Rattle.design.specs.Design.{DesignView}
use Rattle.circuit_info.specs.declared.path_lines.End.TheVariants.{Flop}
use Rattle.circuit_info.specs.Levels.{is_gate_at, pins_at}
use Rattle.circuit_info.specs.Paths.{wires_at, IsPath}
use Rattle.circuit_info.specs.PathText.{is_flop_at, ticks_to}

-- a net has a level within so many gates: it is no gate, or each net at its pins has one within one gate less
abbrev pub has_level_within : NetlistView → ℕ → ℕ → Bool
has_level_within netlist zero net = not (is_gate_at netlist net)
has_level_within netlist (suc gates) net =
    not (is_gate_at netlist net) || list_all (has_level_within netlist gates) (pins_at netlist net)

-- gates form no loop: each net has a level within as many gates as there are nets
abbrev pub is_loop_free : NetlistView → Bool
is_loop_free netlist = list_all (has_level_within netlist (length netlist.nets)) (range_with_len 0 (length netlist.nets))

-- the period of a flip-flop; 0 for any other net
abbrev pub period_at : DesignView → ℕ → ℕ
period_at design net = option_map_or (λ (n : Net). n.timing.period) (slice_get design.circuit net) 0

-- a flip-flop's period has fewer ticks than the longest path to its pin
abbrev pub is_late : DesignView → ℕ → Bool
is_late design net = is_flop_at design.netlist net && nat_lt (period_at design net) (ticks_to design Flop net)

-- the numbers of these flip-flops, in rising order; none if gates form a loop, since no path is the longest one then
abbrev pub late_flops : DesignView → List ℕ
late_flops design =
    if is_loop_free design.netlist then filter (is_late design) (range_with_len 0 (length design.netlist.nets)) else []

-- a path over which a value takes more ticks than a flip-flop's period: these nets, and then the wire to a pin of the flip-flop
pub record IsLatePath (design : DesignView) (flop : ℕ) (path : List ℕ) : Type 0 where
  pub ends : IsTrue (is_flop_at design.netlist flop)
  pub place : ℕ
  pub ticks : ℕ
  pub within : place < length (pins_at design.netlist flop)
  pub over : IsPath design (slice_index_or (pins_at design.netlist flop) place 0) path ticks
  pub longer : period_at design flop < ticks + slice_index_or (wires_at design flop) place 0
