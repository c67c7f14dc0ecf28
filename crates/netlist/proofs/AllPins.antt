-- The pins of all nets are nets, and few.
use Rattle.std.proofs.Common.{ℕ, suc, ◌<◌, ◌≤◌, List, [], ◌∷◌, length, All, arith}
use Rattle.std.proofs.lemmas.List.Concat.{length-flat_map}
use Rattle.std.proofs.lemmas.List.Elements.{All-nil, All-append}
use Rattle.netlist.specs.Netlist.{NetView, NetlistView, IsNetlist, all_pins, most_pins}

All-joined : (P : ℕ → Type 0) (nets : List NetView) → All (λ (net : NetView). All P net.pins) nets → All P (all_pins nets)
All-joined P [] all = All-nil P
All-joined P (net ∷ nets) all = All-append P net.pins _ (all 0 net (omega arith)) (All-joined P nets (λ k d within. all (suc k) d (omega (arith, within))))

pub pins_exist : (netlist : NetlistView) → IsNetlist netlist → All (λ pin. pin < length netlist.nets) (all_pins netlist.nets)
pins_exist netlist ok = All-joined (λ pin. pin < length netlist.nets) netlist.nets ok.pins

pub pins_few : (netlist : NetlistView) → IsNetlist netlist → length (all_pins netlist.nets) ≤ most_pins
pins_few netlist ok = omega (arith, ok.pin_limit, length-flat_map (λ (net : NetView). net.pins) netlist.nets)
