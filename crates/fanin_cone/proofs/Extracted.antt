-- An extracted netlist has the nets of the whole, and they show the same.
use Rattle.std.proofs.Common.{eq-eqb, ◌≡◌, ℕ, ◌<◌, ◌≤◌, ◌==◌, nat_lt, Bool, true, List, [], ◌∷◌, length, map, filter_map, get_or, Option, None, Some, refl, sym, ap, ◌∙◌, arith, All, Contains, true≢false}
use Rattle.std.specs.List.{position}
use Rattle.std.specs.Option.{is_some}
use Rattle.std.proofs.lemmas.Bool.{eqb-true}
use Rattle.std.proofs.lemmas.List.{get_or-map, length-map}
use Rattle.std.proofs.lemmas.List.Elements.{All-head, All-tail, All-map, All-weaker}
use Rattle.std.proofs.lemmas.List.Folds.{list_any_at}
use Rattle.std.proofs.lemmas.List.Quantifiers.{position-Some}
use Rattle.netlist.proofs.CallerLemmas.{list_any-place, no_net, net_at-named}
use Rattle.netlist.specs.Netlist.{NetView, NetlistView, net_at, net_named, name_at}
use Rattle.netlist.specs.Repeats.{distinct}
use Rattle.netlist.specs.Pick.{place_in, picked}
use Rattle.design.specs.Design.{DesignView, IsDesign, untimed}
use Rattle.design.specs.Equations.{value_of}
use Rattle.design.proofs.CallerLemmas.{net_named-circuit, length-circuit}
use Rattle.fanin_cone.specs.Cone.{pin_names, IsClosed}
use Rattle.fanin_cone.specs.Agreement.{net_of, AgreesAt, AgreesOn}
use Rattle.fanin_cone.specs.Extract.{IsExtract, KeepsTiming}
use Rattle.fanin_cone.proofs.DesignNets.{net_there, net_at-untimed}
use Rattle.fanin_cone.proofs.Extracting.{kept_below, pins_kept}
use Rattle.fanin_cone.proofs.NetOf.{net_of-own, net_of-none, net_of-some, own_number}
use Rattle.fanin_cone.proofs.Agreed.{value_agrees}

-- the place of a number that is kept holds it
pub place_in-kept : (keep : List ℕ) (number d : ℕ) → Contains keep number → (place_in keep number < length keep) × (get_or keep (place_in keep number) d ≡ number)
place_in-kept keep number d at =
    let is : ℕ → Bool = λ kept. kept == number in
    let here : is (get_or keep at.0 number) ≡ true = eq-eqb (get_or keep at.0 number) number at.2 in
    let inside : nat_lt (place_in keep number) (length keep) ≡ true = sym (list_any-place is keep) ∙ list_any_at is keep at.0 number at.1 here in
    let found : position is keep ≡ Some (place_in keep number) = rw inside refl in
    let there = position-Some is keep (place_in keep number) d found in
    (there.0, eqb-true (get_or keep (place_in keep number) d) number there.1)

module _ (whole : NetlistView) (keep outputs : List ℕ) where
  abbrev part : NetlistView
  part = picked whole keep outputs

  -- a net of the part is the one of the whole, but for the numbers of its pins
  abbrev kept_net : ℕ → NetView
  kept_net number = record {
    name = (net_at whole number).name;
    part = (net_at whole number).part;
    pins = map (place_in keep) (net_at whole number).pins;
  }

  net_at-picked : (m d : ℕ) → m < length keep → net_at part m ≡ kept_net (get_or keep m d)
  net_at-picked m d below = get_or-map kept_net keep m d no_net below

  pub name_at-picked : (m d : ℕ) → m < length keep → name_at part m ≡ name_at whole (get_or keep m d)
  name_at-picked m d below = ap (λ (net : NetView). net.name) (net_at-picked m d below)

  pub pin_names-picked : (pins : List ℕ) → All (Contains keep) pins → pin_names part (map (place_in keep) pins) ≡ pin_names whole pins
  pin_names-picked [] all = refl
  pin_names-picked (p ∷ pins) all =
      let place = place_in-kept keep p 0 (All-head (Contains keep) p pins all) in
      let head : name_at part (place_in keep p) ≡ name_at whole p = name_at-picked (place_in keep p) 0 place.0 ∙ ap (name_at whole) place.1 in
      let tail = pin_names-picked pins (All-tail (Contains keep) p pins all) in
      ap (λ name. name ∷ map (name_at part) (map (place_in keep) pins)) head ∙ ap (λ names. name_at whole p ∷ names) tail

module _ (whole extract : DesignView) (names : List (List ℕ)) (horizon : ℕ) (ok : IsDesign whole) (ok_extract : IsDesign extract)
    (is_extract : IsExtract whole.netlist names extract.netlist) (timing : KeepsTiming whole extract horizon) where
  abbrev keep : List ℕ
  keep = is_extract.keep

  -- a net of the extract and the one of the whole that it was
  same_net_at : (name : List ℕ) (m : ℕ) → net_named extract.netlist name ≡ Some m → AgreesAt extract whole horizon name
  same_net_at name m found =
      let there = net_at-named extract.netlist name m found in
      let outputs = distinct (filter_map (net_named whole.netlist) names) in
      let long : length extract.netlist.nets ≡ length keep =
      ap (λ (n : NetlistView). length n.nets) is_extract.picked_so ∙ length-map keep (kept_net whole.netlist keep outputs) in
      let below : m < length keep = omega (arith, there.0, long) in
      let number = get_or keep m 0 in
      let number_below : number < length whole.netlist.nets = kept_below whole.netlist names keep is_extract.cone m 0 below in
      let x = net_there extract.circuit m (omega (arith, there.0, length-circuit extract ok_extract)) in
      let y = net_there whole.circuit number (omega (arith, number_below, length-circuit whole ok)) in
      let as_kept : untimed x.0 ≡ kept_net whole.netlist keep outputs number =
      sym (net_at-untimed extract ok_extract m x.0 x.1) ∙ ap (λ netlist. net_at netlist m) is_extract.picked_so
      ∙ net_at-picked whole.netlist keep outputs m 0 below in
      let as_whole : net_at whole.netlist number ≡ untimed y.0 = net_at-untimed whole ok number y.0 y.1 in
      let x_name : x.0.name ≡ name =
      sym (ap (λ (n : NetView). n.name) (net_at-untimed extract ok_extract m x.0 x.1)) ∙ there.1 in
      let y_name : y.0.name ≡ name =
      sym (ap (λ (n : NetView). n.name) as_whole) ∙ sym (ap (λ (n : NetView). n.name) as_kept) ∙ x_name in
      let first = ap (net_of extract) (sym x_name) ∙ net_of-own extract ok_extract m x.0 x.1 in
      let second = ap (net_of whole) (sym y_name) ∙ net_of-own whole ok number y.0 y.1 in
      let pins = (net_at whole.netlist number).pins in
      let all_kept = pins_kept whole.netlist names keep is_extract.cone ok.netlist m 0 below in
      record {
        x = x.0;
        y = y.0;
        first = first;
        second = second;
        same = record {
          part = ap (λ (n : NetView). n.part) as_kept ∙ ap (λ (n : NetView). n.part) as_whole;
          pins =
              ap (pin_names extract.netlist) (ap (λ (n : NetView). n.pins) as_kept)
              ∙ ap (λ netlist. pin_names netlist (map (place_in keep) pins)) is_extract.picked_so
              ∙ pin_names-picked whole.netlist keep outputs pins all_kept
              ∙ ap (λ (n : NetView). pin_names whole.netlist n.pins) as_whole;
          timing = timing name x.0 y.0 first second;
        };
      }

  -- so the designs agree on the nets of the extract
  pub extract_agrees : AgreesOn extract whole (λ name. is_some (net_of extract name) ≡ true) horizon
  extract_agrees name some = go (net_named extract.netlist name) refl
    where
      go : (place : Option ℕ) → net_named extract.netlist name ≡ place → AgreesAt extract whole horizon name
      go None none =
          let none_of = net_of-none extract name (sym (net_named-circuit extract ok_extract name) ∙ none) in
          absurd (true≢false (sym some ∙ ap is_some none_of))
      go (Some m) found = same_net_at name m found

  -- whose names are a closed set
  extract_closed : IsClosed extract.netlist (λ name. is_some (net_of extract name) ≡ true)
  extract_closed place d inside _ =
      let pins = (get_or extract.netlist.nets place d).pins in
      All-map (λ name. is_some (net_of extract name) ≡ true) (name_at extract.netlist) pins
      (All-weaker (λ p. p < length extract.netlist.nets) (λ p. is_some (net_of extract (name_at extract.netlist p)) ≡ true)
      (λ p below. net_of-some extract ok_extract (name_at extract.netlist p) p (own_number extract.netlist ok_extract.netlist p below))
      pins (ok_extract.netlist.pins place d inside))

  pub extract_shows : (name : List ℕ) (m n tick : ℕ) → net_named extract.netlist name ≡ Some m → net_named whole.netlist name ≡ Some n →
      tick ≤ horizon → value_of extract.circuit m tick ≡ value_of whole.circuit n tick
  extract_shows name m n tick found also_found h =
      value_agrees extract whole ok_extract ok (λ name. is_some (net_of extract name) ≡ true) horizon extract_closed extract_agrees name m n tick
      (net_of-some extract ok_extract name m found) found also_found h
