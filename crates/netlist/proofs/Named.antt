-- The net of a name.
use Rattle.std.proofs.Common.{◌≡◌, ◌≢◌, ℕ, ◌<◌, List, [], length, map, get_or, set, Some, ◌⊎◌, inl, inr, length-set, get_or-set_other, AllPairs, sym, ap, ◌∙◌}
use Rattle.std.proofs.lemmas.Bool.{cases_eq, cases_order}
use Rattle.std.proofs.lemmas.Grind.{get_or-set_at}
use Rattle.std.proofs.lemmas.List.{ext_get_or, get_or-map, length-map}
use Rattle.std.proofs.lemmas.List.Quantifiers.{position-Some}
use Rattle.std.proofs.lemmas.Slice.Eq.{bytes_eq-Decides}
use Rattle.std.specs.Str.{bytes_eq}
use Rattle.netlist.specs.declared.part.Part.TheVariants.{Input}
use Rattle.netlist.specs.Netlist.{NetView, NetlistView, net_named, net_at}

-- what stands for a net past the last
abbrev pub no_net : NetView
no_net = record { name = []; part = Input; pins = [] }

-- the number of a name is that of a net that has it
pub net_at-named : (netlist : NetlistView) (name : List ℕ) (net : ℕ) → net_named netlist name ≡ Some net →
    (net < length netlist.nets) × ((net_at netlist net).name ≡ name)
net_at-named netlist name net found =
    let at = position-Some (λ (other : NetView). bytes_eq other.name name) netlist.nets net no_net found in
    (at.0, (bytes_eq-Decides (net_at netlist net).name name).0 at.1)

-- no two nets have one name
abbrev pub HasDistinctNames : List NetView → Type 0
HasDistinctNames nets = AllPairs (λ (earlier later : NetView). earlier.name ≢ later.name) nets

-- they lie at different numbers
pub names-differ : (nets : List NetView) (net other : ℕ) → HasDistinctNames nets → net < length nets → other < length nets → other ≢ net →
    (get_or nets other no_net).name ≢ (get_or nets net no_net).name
names-differ nets net other distinct here there apart =
    elim (cases_order other net) [
      | inl same ↦ absurd (apart same)
      | inr (inl before) ↦ distinct other net no_net before here
      | inr (inr after) ↦ λ same. distinct net other no_net after there (sym same)
    ]

-- where what names mean changes at one net's name alone, so does the list of what the nets' names mean
pub map-named : {X : Type 0} (nets : List NetView) (old new : List ℕ → X) (net : ℕ) → HasDistinctNames nets → net < length nets →
    ((name : List ℕ) → name ≢ (get_or nets net no_net).name → new name ≡ old name) →
    map (λ (other : NetView). new other.name) nets
    ≡ set (map (λ (other : NetView). old other.name) nets) net (new (get_or nets net no_net).name)
map-named {X = X} nets old new net distinct here others =
    ext_get_or changed (map after nets) (set (map before nets) net changed) (simp (length-map, length-set))
    (λ place within. at place (simp length-map at within) (cases_eq place net))
  where
    before : NetView → X
    before other = old other.name

    after : NetView → X
    after other = new other.name

    changed : X
    changed = after (get_or nets net no_net)

    at : (place : ℕ) → place < length nets → (place ≡ net) ⊎ (place ≢ net) →
        get_or (map after nets) place changed ≡ get_or (set (map before nets) net changed) place changed
    at place within (inl same) =
        let room : net < length (map before nets) = simp length-map here in
        get_or-map after nets place no_net changed within ∙ ap (λ k. after (get_or nets k no_net)) same
        ∙ sym (get_or-set_at (map before nets) net place changed changed same room)
    at place within (inr apart) =
        get_or-map after nets place no_net changed within
        ∙ others (get_or nets place no_net).name (names-differ nets net place distinct here within apart)
        ∙ sym (get_or-map before nets place no_net changed within)
        ∙ sym (get_or-set_other (map before nets) net place changed changed apart)
