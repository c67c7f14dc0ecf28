-- Inputs that nothing uses.
use Rattle.std.specs.Prelude.{◌≡◌, ℕ, ◌<◌, ◌==◌, ◌&&◌, not, Bool, List, ◌++◌, length, filter}
use Rattle.std.specs.List.{list_any, range_with_len}
use Rattle.netlist.specs.Netlist.{NetView, NetlistView, all_pins, net_at}
use Rattle.netlist.specs.Marks.{is_seen}
use Rattle.netlist.specs.Part.{is_flop, is_input}

-- a number is in a list
abbrev pub is_among : ℕ → List ℕ → Bool
is_among number numbers = list_any (λ other. other == number) numbers

-- the pins of all nets, and the outputs
abbrev pub uses : NetlistView → List ℕ
uses netlist = all_pins netlist.nets ++ netlist.outputs

-- the net is an input that is at no pin and no output
abbrev pub is_unused_input : NetlistView → ℕ → Bool
is_unused_input netlist net = is_input (net_at netlist net).part && not (is_among net (uses netlist))

-- the numbers of these inputs, in rising order
abbrev pub unused_inputs : NetlistView → List ℕ
unused_inputs netlist = filter (is_unused_input netlist) (range_with_len 0 (length netlist.nets))

-- some net is a flip-flop
abbrev pub has_flops : NetlistView → Bool
has_flops netlist = list_any (λ (net : NetView). is_flop net.part) netlist.nets

-- marks on the nets that are in a list
pub record AreMarks (nets : ℕ) (numbers : List ℕ) (marks : List Bool) : Type 0 where
  pub size : length marks ≡ nets
  pub each : (net : ℕ) → net < nets → is_seen marks net ≡ is_among net numbers
