-- Names of nets in texts.
use Rattle.std.specs.Prelude.{ℕ, List, ◌++◌, codes}
use Rattle.std.specs.List.{flat_map}
use Rattle.netlist.specs.Netlist.{NetlistView, name_at}

-- the names of these nets, with a space before each
abbrev pub names_behind : NetlistView → List ℕ → List ℕ
names_behind netlist nets = flat_map (λ net. codes " " ++ name_at netlist net) nets
