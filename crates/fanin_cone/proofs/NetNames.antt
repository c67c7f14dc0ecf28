-- The names of a netlist's nets, and of the nets at pins.
use Rattle.std.proofs.Common.{◌≡◌, ℕ, ◌<◌, length, ◌∙◌, All, Contains, inl, inr}
use Rattle.std.proofs.lemmas.Bool.{cases_eq}
use Rattle.std.proofs.lemmas.List.{get_or_default}
use Rattle.netlist.specs.Netlist.{NetView, NetlistView, IsNetlist, net_at, name_at}
use Rattle.netlist.proofs.CallerLemmas.{no_net, names-differ}

-- a name has one number
pub same_net : (netlist : NetlistView) → IsNetlist netlist → (net other : ℕ) → net < length netlist.nets → other < length netlist.nets →
    name_at netlist net ≡ name_at netlist other → net ≡ other
same_net netlist ok net other here there same =
    elim (cases_eq net other) [
      | inl equal ↦ equal
      | inr apart ↦ absurd (names-differ netlist.nets other net ok.distinct there here apart same)
    ]

-- a net that the netlist has stands at a number
pub number_of_net : (netlist : NetlistView) (net : NetView) → Contains netlist.nets net → (number : ℕ) × (number < length netlist.nets) × (net_at netlist number ≡ net)
number_of_net netlist net at = (at.0, at.1, get_or_default netlist.nets at.0 no_net net at.1 ∙ at.2)

-- pins are numbers of nets
pub pins_below : (netlist : NetlistView) → IsNetlist netlist → (net : ℕ) → net < length netlist.nets →
    All (λ pin. pin < length netlist.nets) (net_at netlist net).pins
pins_below netlist ok net below = ok.pins net no_net below
