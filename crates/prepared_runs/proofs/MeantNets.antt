-- The nets that words mean are nets of the netlist, and so are those of lanes.
use Rattle.std.proofs.Common.{◌≡◌, refl, sym, ap, subst, ◌∙◌, ℕ, ◌<◌, ◌≤◌, ◌+◌, List, [], ◌∷◌, ◌++◌, append_assoc, drop, get_or, length, map, Vec, filter, not, Bool, true, false, cond, option_map, Option, None, Some, Ok, Err, IsTrue, All, arith}
use denote.Ref.{Bor}
use Rattle.std.specs.declared.alloc.Global.{Global}
use Rattle.std.proofs.lemmas.List.{map-append}
use Rattle.texts.specs.Text.{◌>>=◌}
use Rattle.std.specs.Option.{ok_or}
use Rattle.std.proofs.lemmas.List.Elements.{All-append, All-filter, All-head, All-nil, All-tail}
use Rattle.std.proofs.lemmas.List.Filters.{length-filter_both}
use Rattle.design.specs.Design.{DesignView, IsDesign}
use Rattle.design.proofs.CallerLemmas.{length-circuit}
use Rattle.netlist.specs.Names.{seen_names}
use Rattle.netlist.specs.Netlist.{NetlistView}
use Rattle.net_words.specs.Meant.{nets_meant}
use Rattle.net_words.proofs.CallerLemmas.{All-all_found, IsNet-meant, found_after, found_more, found_none, next}
use Rattle.prepared_runs.specs.declared.fault.SimFault.{SimFault}
use Rattle.prepared_runs.specs.declared.fault.SimFault.TheVariants.{UnknownNet}
use Rattle.prepared_runs.specs.declared.lanes.BusNets.{BusNets}
use Rattle.prepared_runs.specs.declared.view.DiagramView.{DiagramView}
use Rattle.prepared_runs.specs.Lanes.{BusView, LanesView, bits_of, bus_meant, bus_view, buses_meant, is_named, lanes_of, lone_nets}
use Rattle.prepared_runs.specs.Marked.{is_among}
use Rattle.prepared_runs.specs.Source.{if_known, knows_shown, shown_nets}
use Rattle.prepared_runs.proofs.ShownNets.{All-shown_nets, few-shown_nets}

module _ (netlist : NetlistView) where
  abbrev IsNet : ℕ → Type 0
  IsNet net = net < length netlist.nets

  abbrev HasNets : BusView → Type 0
  HasNets bus = All IsNet bus.1

  HasNets-meant : (word : List ℕ) (bus : BusView) → bus_meant netlist word ≡ Some bus → HasNets bus
  HasNets-meant word bus is = go (nets_meant netlist word) refl is
    where
      go : (nets : Option (List ℕ)) → nets_meant netlist word ≡ nets → option_map (λ nets. (word, nets)) nets ≡ Some bus → HasNets bus
      go None are e = absurd (cc)
      go (Some nets) are e = let same : (word, nets) ≡ bus = cc in rw (← same) (IsNet-meant netlist word nets are)

  IsNet-bits : (buses : List BusView) → All HasNets buses → All IsNet (bits_of buses)
  IsNet-bits [] have = All-nil IsNet
  IsNet-bits (bus ∷ buses) have =
      All-append IsNet bus.1 (bits_of buses) (All-head HasNets bus buses have) (IsNet-bits buses (All-tail HasNets bus buses have))

  -- the nets of buses that words mean
  pub IsNet-buses : (words : List (List ℕ)) (buses : List BusView) → buses_meant netlist words ≡ Some buses → All IsNet (bits_of buses)
  IsNet-buses words buses are = IsNet-bits buses (All-all_found (bus_meant netlist) HasNets HasNets-meant words buses are)

-- a part of a list isn't longer
pub shorter : (p : ℕ → Bool) (xs : List ℕ) → length (filter p xs) ≤ length xs
shorter p xs = let both = length-filter_both p (λ x. not (p x)) (λ x. refl) xs in omega (arith, both)

-- ---- one bus after the other

-- the nets of one more
pub bits-next : (items rest : List BusView) (bus : BusView) (xs ys : List ℕ) → items ≡ bus ∷ rest → ys ≡ xs ++ bus.1 → ys ++ bits_of rest ≡ xs ++ bits_of items
bits-next items rest bus xs ys is longer = rw (is, longer) (append_assoc xs bus.1 (bits_of rest))

module _ (netlist : NetlistView) (words : List (Bor (List ℕ))) (place : ℕ) (d : Bor (List ℕ)) where
  abbrev word : List ℕ
  word = (get_or words place d).now

  abbrev after : ℕ → List (List ℕ)
  after from = drop from (seen_names words)

  pub no_bus : (found : List BusView) → place < length words →
      found_after (bus_meant netlist) found (after place) ≡ buses_meant netlist (seen_names words) →
      nets_meant netlist word ≡ None → ok_or (buses_meant netlist (seen_names words)) UnknownNet ≡ Err UnknownNet
  no_bus found inside so_far none =
      ap (λ all. ok_or all UnknownNet)
      (sym so_far ∙ ap (found_after (bus_meant netlist) found) (next (λ (name : Bor (List ℕ)). name.now) words place d inside)
      ∙ found_none (bus_meant netlist) found word (after (place + 1)) (ap (option_map (λ nets. (word, nets))) none))

  pub more_buses : (found more : List BusNets) (nets : Vec ℕ Global) → place < length words →
      more ≡ found ++ record { name = get_or words place d; nets = nets } ∷ [] → nets_meant netlist word ≡ Some nets.items →
      found_after (bus_meant netlist) (map bus_view more) (after (place + 1)) ≡ found_after (bus_meant netlist) (map bus_view found) (after place)
  more_buses found more nets inside longer are =
      found_more (bus_meant netlist) (map bus_view found) (map bus_view more) word (after (place + 1)) (word, nets.items)
      (ap (option_map (λ nets. (word, nets))) are)
      (ap (map bus_view) longer ∙ map-append bus_view found _)
      ∙ ap (found_after (bus_meant netlist) (map bus_view found)) (sym (next (λ (name : Bor (List ℕ)). name.now) words place d inside))

-- ---- lanes

-- the nets of lanes are a design's, and there are no more lanes of nets than nets
pub record AreLanes (design : DesignView) (lanes : LanesView) : Type 0 where
  pub nets : All (λ net. net < length design.circuit) lanes.nets
  pub bits : All (λ net. net < length design.circuit) (bits_of lanes.buses)
  pub few : length lanes.nets ≤ length design.circuit

pub IsNet-circuit : (design : DesignView) → IsDesign design → (nets : List ℕ) → All (IsNet design.netlist) nets → All (λ net. net < length design.circuit) nets
IsNet-circuit design formed nets are = rw (length-circuit design formed) are

module _ (view : DiagramView) (design : DesignView) (formed : IsDesign design) where
  abbrev IsShown : ℕ → Type 0
  IsShown net = net < length design.circuit

  lone : (buses : List BusView) → All IsShown (lone_nets view.show design.netlist buses) × (length (lone_nets view.show design.netlist buses) ≤ length design.circuit)
  lone buses = go (is_named view.show) (All-shown_nets view.show design formed) (few-shown_nets view.show design formed)
    where
      go : (named : Bool) → All IsShown (shown_nets view.show design.netlist) → length (shown_nets view.show design.netlist) ≤ length design.circuit →
          All IsShown (cond named (shown_nets view.show design.netlist) (filter (λ net. not (is_among (bits_of buses) net)) (shown_nets view.show design.netlist)))
          × (length (cond named (shown_nets view.show design.netlist) (filter (λ net. not (is_among (bits_of buses) net)) (shown_nets view.show design.netlist)))
          ≤ length design.circuit)
      go true all few = (all, few)
      go false all few =
          let own : ℕ → Bool = λ net. not (is_among (bits_of buses) net) in
          let shown = shown_nets view.show design.netlist in
          let part = shorter own shown in
          (All-filter own IsShown shown all, omega (arith, part, few))

  pub AreLanes-lanes_of : (lanes : LanesView) → lanes_of view design.netlist ≡ Ok lanes → AreLanes design lanes
  unfolding lanes_of
  AreLanes-lanes_of lanes = go (knows_shown view.show design.netlist) (buses_meant design.netlist (seen_names view.buses.items)) refl
    where
      go : (known : Bool) (meant : Option (List BusView)) → buses_meant design.netlist (seen_names view.buses.items) ≡ meant →
          (cond known (Ok (shown_nets view.show design.netlist)) (Err UnknownNet) >>= λ shown. ok_or meant UnknownNet >>= λ buses.
          Ok (record { nets = lone_nets view.show design.netlist buses; buses = buses })) ≡ Ok lanes → AreLanes design lanes
      go false meant are e = absurd (cc)
      go true None are e = absurd (cc)
      go true (Some buses) are e =
          let same : record { nets = lone_nets view.show design.netlist buses; buses = buses } ≡ lanes = cc in
          subst (AreLanes design) same (record {
            nets = (lone buses).0;
            bits = IsNet-circuit design formed (bits_of buses) (IsNet-buses design.netlist (seen_names view.buses.items) buses are);
            few = (lone buses).1;
          })

-- ---- the lanes of a view

module _ (view : DiagramView) (netlist : NetlistView) where
  lanes_of-hidden : knows_shown view.show netlist ≡ false → lanes_of view netlist ≡ Err UnknownNet
  unfolding lanes_of
  lanes_of-hidden is = rw is refl

  -- a net to be shown that isn't there is the answer
  pub lanes_of-unknown : {A : Type 0} (shown : A) (fault : SimFault) → if_known view.show netlist shown ≡ Err fault → lanes_of view netlist ≡ Err fault
  lanes_of-unknown shown fault unknown = go (knows_shown view.show netlist) refl unknown
    where
      go : (known : Bool) → knows_shown view.show netlist ≡ known → cond known (Ok shown) (Err UnknownNet) ≡ Err fault → lanes_of view netlist ≡ Err fault
      go true is e = absurd (cc)
      go false is e = let same : UnknownNet ≡ fault = cc in lanes_of-hidden is ∙ ap (λ f. Err f) same

  module _ (known : IsTrue (knows_shown view.show netlist)) where
    -- so is a word that means no nets
    pub lanes_of-no_bus : (fault : SimFault) → ok_or (buses_meant netlist (seen_names view.buses.items)) UnknownNet ≡ Err fault → lanes_of view netlist ≡ Err fault
    unfolding lanes_of
    lanes_of-no_bus fault none = rw (known, none) refl

    pub lanes_of-good : (buses : List BusView) → buses_meant netlist (seen_names view.buses.items) ≡ Some buses →
        lanes_of view netlist ≡ Ok (record { nets = lone_nets view.show netlist buses; buses = buses })
    unfolding lanes_of
    lanes_of-good buses are = rw (known, are) refl
