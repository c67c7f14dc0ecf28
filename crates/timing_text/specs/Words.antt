-- The meaning of words of delay and stimulus texts.
use Rattle.std.specs.Prelude.{◌||◌, ℕ, if◌then◌else◌, List, option_map, Option, None, Some, codes, bytes_eq}
use Rattle.logic3.specs.declared.value.Value.{Value}
use Rattle.logic3.specs.declared.value.Value.TheVariants.{Zero, One, Unknown}
use Rattle.netlist.specs.Netlist.{NetView, NetlistView, net_named, net_at}

-- the net with this name
abbrev pub find_net : NetlistView → List ℕ → Option NetView
find_net netlist name = option_map (net_at netlist) (net_named netlist name)

-- the value that a word means
abbrev pub value_of_word : List ℕ → Option Value
value_of_word text =
    if bytes_eq text (codes "0") then Some Zero
    else if bytes_eq text (codes "1") then Some One
    else if bytes_eq text (codes "x") || bytes_eq text (codes "X") then Some Unknown
    else None
