-- The nets that a net feeds are those that have it at a pin.
use Rattle.std.proofs.Common.{◌≡◌, ℕ, zero, suc, ◌+◌, ◌<◌, ◌==◌, Bool, true, false, cond, List, [], ◌∷◌, length, get_or, map, Some, slice_get, refl, sym, ap, ◌∙◌, subst, arith, Contains}
use Rattle.std.proofs.lemmas.Bool.{eqb-true, eqb-false}
use Rattle.std.proofs.lemmas.List.Elements.{Contains-get_or}
use Rattle.std.proofs.lemmas.Option.{slice_get-get_or, slice_get_within, same_Some}
use Rattle.netlist.specs.Netlist.{NetView, net_at}
use Rattle.design.specs.Circuit.{pin_count}
use Rattle.design.specs.Design.{DesignView, IsDesign}
use Rattle.design.specs.Pins.{first_pin, net_of_pin, pins_fed, place_of_pin, sources_of}
use Rattle.design.proofs.CallerLemmas.{PinIs, length-sources, net_of_pin_below, pin_below, pin_is, same_pin, source_at}
use Rattle.fanin_cone.specs.Dependents.{fed_nets}
use Rattle.fanin_cone.proofs.DesignNets.{net_at-untimed, net_there}
use Rattle.fanin_cone.proofs.Listed.{Contains-from_map, Contains-map}

-- a net is the source of each pin that it feeds
source_of_fed : (net : ℕ) (sources : List ℕ) (pin : ℕ) → Contains (pins_fed net sources) pin → slice_get sources pin ≡ Some net
source_of_fed net [] pin at = absurd (omega (arith, at.1))
source_of_fed net (source ∷ sources) pin at = go (source == net) refl (source_of_fed net sources) pin at
  where
    later : ((p : ℕ) → Contains (pins_fed net sources) p → slice_get sources p ≡ Some net) → (pin : ℕ) →
        Contains (map suc (pins_fed net sources)) pin → slice_get (source ∷ sources) pin ≡ Some net
    later rest pin at =
        let found = Contains-from_map suc (pins_fed net sources) pin at in
        subst (λ p. slice_get (source ∷ sources) p ≡ Some net) found.2 (rest found.0 found.1)

    go : (same : Bool) → (source == net) ≡ same → ((p : ℕ) → Contains (pins_fed net sources) p → slice_get sources p ≡ Some net) → (pin : ℕ) →
        Contains (cond {A = List ℕ} same (0 ∷ map suc (pins_fed net sources)) (map suc (pins_fed net sources))) pin →
        slice_get (source ∷ sources) pin ≡ Some net
    go true e rest pin (zero, below, is) = subst (λ p. slice_get (source ∷ sources) p ≡ Some net) is (ap Some (eqb-true source net e))
    go true e rest pin (suc place, below, is) = later rest pin (place, omega (arith, below), is)
    go false e rest pin at = later rest pin at

-- and it feeds each pin whose source it is
fed_by_source : (net : ℕ) (sources : List ℕ) (pin : ℕ) → slice_get sources pin ≡ Some net → Contains (pins_fed net sources) pin
fed_by_source net [] pin at = cc
fed_by_source net (source ∷ sources) zero at = go (source == net) refl
  where
    go : (same : Bool) → (source == net) ≡ same →
        Contains (cond {A = List ℕ} same (0 ∷ map suc (pins_fed net sources)) (map suc (pins_fed net sources))) 0
    go true e = (0, omega arith, refl)
    go false e = absurd (eqb-false source net e (same_Some source net at))
fed_by_source net (source ∷ sources) (suc pin) at =
    go (source == net) (Contains-map suc (pins_fed net sources) pin (fed_by_source net sources pin at))
  where
    go : (same : Bool) → Contains (map suc (pins_fed net sources)) (suc pin) →
        Contains (cond {A = List ℕ} same (0 ∷ map suc (pins_fed net sources)) (map suc (pins_fed net sources))) (suc pin)
    go true (place, below, is) = (suc place, omega (arith, below), is)
    go false at = at

module _ (design : DesignView) (ok : IsDesign design) (net fed : ℕ) where
  -- a net that it feeds has it at a pin
  pub fed-has_pin : Contains (fed_nets design.circuit net) fed → (fed < length design.circuit) × Contains (net_at design.netlist fed).pins net
  fed-has_pin at =
      let sources = sources_of design.circuit in
      let found = Contains-from_map (net_of_pin design.circuit) (pins_fed net sources) fed at in
      let pin = found.0 in
      let number = net_of_pin design.circuit pin in
      let place = place_of_pin design.circuit pin in
      let source : slice_get sources pin ≡ Some net = source_of_fed net sources pin found.1 in
      let below : pin < pin_count design.circuit = omega (arith, slice_get_within sources pin net source, length-sources design.circuit) in
      let is : PinIs design.circuit pin number place = pin_is design.circuit pin below in
      let there : slice_get is.net.pins place ≡ Some (get_or is.net.pins place 0) = slice_get-get_or is.net.pins place 0 is.within in
      let same : get_or is.net.pins place 0 ≡ net =
      same_Some _ _ (sym (source_at design.circuit number place _ is.net is.at there) ∙ ap (slice_get sources) is.number_is ∙ source) in
      let pins : (net_at design.netlist number).pins ≡ is.net.pins = ap (λ (n : NetView). n.pins) (net_at-untimed design ok number is.net is.at) in
      let own : Contains is.net.pins net = subst (Contains is.net.pins) same (Contains-get_or is.net.pins place 0 is.within) in
      subst (λ f. (f < length design.circuit) × Contains (net_at design.netlist f).pins net) found.2
      (net_of_pin_below design.circuit pin below, subst (λ ps. Contains ps net) (sym pins) own)

  -- and it feeds each net that has it at a pin
  pub fed-from_pin : fed < length design.circuit → Contains (net_at design.netlist fed).pins net → Contains (fed_nets design.circuit net) fed
  fed-from_pin below at =
      let sources = sources_of design.circuit in
      let there = net_there design.circuit fed below in
      let x = there.0 in
      let pins : (net_at design.netlist fed).pins ≡ x.pins = ap (λ (n : NetView). n.pins) (net_at-untimed design ok fed x there.1) in
      let own : Contains x.pins net = subst (λ ps. Contains ps net) pins at in
      let source : slice_get x.pins own.0 ≡ Some net = slice_get-get_or x.pins own.0 net own.1 ∙ ap Some own.2 in
      let pin = first_pin design.circuit fed + own.0 in
      let is_source : slice_get sources pin ≡ Some net = source_at design.circuit fed own.0 net x there.1 source in
      let inside = pin_below design.circuit fed own.0 net x there.1 source in
      let number = net_of_pin design.circuit pin in
      let place = place_of_pin design.circuit pin in
      let is : PinIs design.circuit pin number place = pin_is design.circuit pin inside in
      let same : fed ≡ number = (same_pin design.circuit fed number own.0 place x is.net there.1 is.at own.1 is.within (sym is.number_is)).0 in
      subst (Contains (fed_nets design.circuit net)) (sym same) (Contains-map (net_of_pin design.circuit) (pins_fed net sources) pin (fed_by_source net sources pin is_source))
