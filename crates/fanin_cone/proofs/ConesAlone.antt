-- The nets of some cones, picked from a design with all that they have, show what they show in the whole.
use Rattle.std.proofs.Common.{◌≡◌, ◌≢◌, ℕ, ◌<◌, List, [], ◌∷◌, length, map, get_or, Option, None, Some, slice_get, refl, sym, ap, ◌∙◌, subst, arith, All, AllPairs, Contains}
use Rattle.std.proofs.lemmas.List.{get_or-map, length-map}
use Rattle.std.proofs.lemmas.List.Elements.{All-head, All-tail}
use Rattle.std.proofs.lemmas.Option.{slice_get-get_or, slice_get_within, get_or_from_slice_get, none-some, same_Some}
use Rattle.logic3.specs.Wave.{changes_until}
use Rattle.netlist.specs.Netlist.{NetView, NetlistView, IsNetlist, name_at, net_named}
use Rattle.netlist.specs.Pick.{place_in, picked}
use Rattle.netlist.specs.Repeats.{distinct}
use Rattle.netlist.proofs.CallerLemmas.{distinct-same, net_at-named}
use Rattle.design.specs.Circuit.{Net, Circuit}
use Rattle.design.specs.Design.{DesignView}
use Rattle.design.specs.Equations.{value_of}
use Rattle.design.specs.PickedDesign.{kept_net, net_in}
use Rattle.design.proofs.CallerLemmas.{net_named-circuit, length-circuit}
use Rattle.fanin_cone.specs.Agreement.{net_of, HasSameTiming}
use Rattle.fanin_cone.specs.Extract.{IsDesignOfCones, IsDesignOfExtract, IsExtract, KeepsTiming}
use Rattle.fanin_cone.proofs.DesignNets.{net_at-untimed}
use Rattle.fanin_cone.proofs.Extracted.{extract_shows, name_at-picked, pin_names-picked, place_in-kept}
use Rattle.fanin_cone.proofs.Extracting.{kept_below, numbers_kept}
use Rattle.fanin_cone.proofs.KnownNames.{HaveNumbers, filter_map-known}
use Rattle.fanin_cone.proofs.NetOf.{net_of-found, net_of-none, net_of-own, own_number}

-- the names of nets have their numbers
pub have_numbers : (netlist : NetlistView) → IsNetlist netlist → (nets : List ℕ) → All (λ net. net < length netlist.nets) nets →
    HaveNumbers netlist (map (name_at netlist) nets) nets
have_numbers netlist ok [] below = refl
have_numbers netlist ok (net ∷ nets) below =
    let here = own_number netlist ok net (All-head (λ n. n < length netlist.nets) net nets below) in
    let rest = have_numbers netlist ok nets (All-tail (λ n. n < length netlist.nets) net nets below) in
    λ i. here i ∷ rest i

-- numbers whose images differ do so
once_from_map : (f : ℕ → ℕ) (xs : List ℕ) → AllPairs (λ (earlier later : ℕ). earlier ≢ later) (map f xs) →
    AllPairs (λ (earlier later : ℕ). earlier ≢ later) xs
once_from_map f xs apart i j d before inside same =
    let late : j < length (map f xs) = rw length-map inside in
    apart i j 0 before late
    (get_or-map f xs i d 0 (omega arith) ∙ ap f same ∙ sym (get_or-map f xs j d 0 inside))

module _ (whole part : DesignView) (nets : List ℕ) (below : All (λ net. net < length whole.netlist.nets) nets) (is : IsDesignOfCones whole nets part) where
  abbrev keep : List ℕ
  keep = is.keep

  abbrev names : List (List ℕ)
  names = map (name_at whole.netlist) nets

  known : HaveNumbers whole.netlist names nets
  known = have_numbers whole.netlist is.first.netlist nets below

  kept : All (Contains keep) nets
  kept = numbers_kept whole.netlist names nets keep known is.cone

  netlist_is : part.netlist ≡ picked whole.netlist keep nets
  netlist_is = ap (λ (design : DesignView). design.netlist) is.picked_so

  circuit_is : part.circuit ≡ map (kept_net whole.circuit keep) keep
  circuit_is = ap (λ (design : DesignView). design.circuit) is.picked_so

  outputs_are : part.netlist.outputs ≡ map (place_in keep) nets
  outputs_are = ap (λ (netlist : NetlistView). netlist.outputs) netlist_is

  once : AllPairs (λ (earlier later : ℕ). earlier ≢ later) nets
  once = once_from_map (place_in keep) nets (subst (AllPairs (λ (earlier later : ℕ). earlier ≢ later)) outputs_are is.second.netlist.outputs_once)

  is_extract : IsExtract whole.netlist names part.netlist
  is_extract = record {
    keep = keep;
    cone = is.cone;
    picked_so = netlist_is ∙ ap (picked whole.netlist keep) (sym (ap distinct (filter_map-known whole.netlist names nets known) ∙ distinct-same nets once));
  }

  -- a net has the timing that the net of its name has in the whole
  keeps_timing : (horizon : ℕ) → KeepsTiming whole part horizon
  keeps_timing horizon name x y first second = go (net_named part.netlist name) refl
    where
      go : (place : Option ℕ) → net_named part.netlist name ≡ place → HasSameTiming horizon x y
      go None none =
          absurd (none-some x (sym (net_of-none part name (sym (net_named-circuit part is.second name) ∙ none)) ∙ first))
      go (Some m) found =
          let at : slice_get part.circuit m ≡ Some x =
          sym (net_of-found part name m (sym (net_named-circuit part is.second name) ∙ found)) ∙ first in
          let inside : m < length keep =
          omega (arith, slice_get_within part.circuit m x at, ap length circuit_is, length-map keep (kept_net whole.circuit keep)) in
          let number = get_or keep m 0 in
          let net = net_in whole.circuit number in
          let x_is : x ≡ kept_net whole.circuit keep number =
          sym (get_or_from_slice_get part.circuit m x x at) ∙ ap (λ (circuit : Circuit). get_or circuit m x) circuit_is
          ∙ get_or-map (kept_net whole.circuit keep) keep m 0 x inside in
          let number_below : number < length whole.circuit =
          omega (arith, kept_below whole.netlist names keep is.cone m 0 inside, length-circuit whole is.first) in
          let there : slice_get whole.circuit number ≡ Some net = slice_get-get_or whole.circuit number _ number_below in
          let named : net.name ≡ name =
          sym (ap (λ (n : Net). n.name) x_is) ∙ sym (ap (λ (n : NetView). n.name) (net_at-untimed part is.second m x at))
          ∙ (net_at-named part.netlist name m found).1 in
          let own : net_of whole name ≡ Some net =
          ap (net_of whole) (sym named) ∙ net_of-own whole is.first number net there in
          let y_is : net ≡ y = same_Some net y (sym own ∙ second) in
          record {
            timing = ap (λ (n : Net). n.timing) x_is ∙ ap (λ (n : Net). n.timing) y_is;
            wires = ap (λ (n : Net). n.wires) x_is ∙ ap (λ (n : Net). n.wires) y_is;
            stimuli = ap (λ (n : Net). changes_until horizon n.stimuli) x_is ∙ ap (λ (n : Net). changes_until horizon n.stimuli) y_is;
          }

  pub IsDesignOfExtract-cones : (horizon : ℕ) → IsDesignOfExtract whole part names horizon
  IsDesignOfExtract-cones horizon = record { first = is.first; second = is.second; nets = is_extract; timing = keeps_timing horizon }

  -- the outputs have the names of the nets
  pub names_alone : map (name_at part.netlist) part.netlist.outputs ≡ names
  names_alone =
      ap (λ (netlist : NetlistView). map (name_at netlist) netlist.outputs) netlist_is ∙ pin_names-picked whole.netlist keep nets nets kept

  value_at_tick : (net tick : ℕ) → Contains keep net → net < length whole.netlist.nets →
      value_of part.circuit (place_in keep net) tick ≡ value_of whole.circuit net tick
  value_at_tick net tick at inside =
      let place = place_in-kept keep net 0 at in
      let name : name_at part.netlist (place_in keep net) ≡ name_at whole.netlist net =
      ap (λ netlist. name_at netlist (place_in keep net)) netlist_is ∙ name_at-picked whole.netlist keep nets (place_in keep net) 0 place.0
      ∙ ap (name_at whole.netlist) place.1 in
      let room : place_in keep net < length part.netlist.nets =
      omega (arith, place.0, ap length circuit_is, length-map keep (kept_net whole.circuit keep), length-circuit part is.second) in
      extract_shows whole part names tick is.first is.second is_extract (keeps_timing tick) (name_at whole.netlist net) (place_in keep net) net tick
      (ap (net_named part.netlist) (sym name) ∙ own_number part.netlist is.second.netlist (place_in keep net) room)
      (own_number whole.netlist is.first.netlist net inside) (omega arith)

  values_by_net : (some : List ℕ) → All (Contains keep) some → All (λ net. net < length whole.netlist.nets) some →
      map (value_of part.circuit) (map (place_in keep) some) ≡ map (value_of whole.circuit) some
  values_by_net [] all inside = refl
  values_by_net (net ∷ some) all inside =
      let here = All-head (Contains keep) net some all in
      let is_net = All-head (λ n. n < length whole.netlist.nets) net some inside in
      let rest = values_by_net some (All-tail (Contains keep) net some all) (All-tail (λ n. n < length whole.netlist.nets) net some inside) in
      λ i. (λ tick. value_at_tick net tick here is_net i) ∷ rest i

  -- and show what these show
  pub values_alone : map (value_of part.circuit) part.netlist.outputs ≡ map (value_of whole.circuit) nets
  values_alone = ap (map (value_of part.circuit)) outputs_are ∙ values_by_net nets kept below
