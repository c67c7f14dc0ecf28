-- The nets of a design by number, in its netlist and in its circuit.
use Rattle.std.proofs.Common.{◌≡◌, ℕ, zero, suc, ◌<◌, List, [], ◌∷◌, length, get_or, option_map, Some, slice_get, refl, sym, ap, ◌∙◌, arith}
use Rattle.std.proofs.lemmas.List.{get_or-map}
use Rattle.std.proofs.lemmas.Option.{slice_get_within, get_or_from_slice_get}
use Rattle.netlist.specs.Netlist.{NetView, net_at, name_at}
use Rattle.design.specs.Circuit.{Net, Circuit}
use Rattle.design.specs.Design.{DesignView, IsDesign, untimed}
use Rattle.design.proofs.CallerLemmas.{net_with}
use Rattle.netlist.proofs.CallerLemmas.{no_net}

-- a number below the number of nets has a net
pub net_there : (circuit : Circuit) (number : ℕ) → number < length circuit → (net : Net) × (slice_get circuit number ≡ Some net)
net_there [] number below = absurd (omega arith)
net_there (net ∷ nets) zero below = (net, refl)
net_there (net ∷ nets) (suc number) below = net_there nets number (omega arith)

-- the net of a number in the netlist is that of the circuit without its timing
pub net_at-untimed : (design : DesignView) → IsDesign design → (number : ℕ) (net : Net) → slice_get design.circuit number ≡ Some net →
    net_at design.netlist number ≡ untimed net
net_at-untimed design ok number net at =
    ap (λ nets. get_or nets number no_net) (sym ok.same_nets)
    ∙ get_or-map untimed design.circuit number net no_net (slice_get_within design.circuit number net at)
    ∙ ap untimed (get_or_from_slice_get design.circuit number net net at)

pub name_at-circuit : (design : DesignView) → IsDesign design → (number : ℕ) (name : List ℕ) →
    option_map (λ (net : Net). net.name) (slice_get design.circuit number) ≡ Some name → name_at design.netlist number ≡ name
name_at-circuit design ok number name named =
    let found = net_with (λ (net : Net). net.name) (slice_get design.circuit number) name named in
    ap (λ (net : NetView). net.name) (net_at-untimed design ok number found.0 found.1) ∙ found.2
