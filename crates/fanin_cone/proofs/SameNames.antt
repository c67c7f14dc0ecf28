-- Whether the names at two lists of pins are the same, pin by pin.
use Rattle.std.proofs.Common.{◌≡◌, ℕ, ◌<◌, not, Bool, true, false, List, ◌∷◌, length, option_map, Some, slice_get, refl, sym, ap, ◌∙◌, subst, arith, All, ◌↔◌}
use Rattle.std.proofs.lemmas.List.Elements.{All-rest}
use Rattle.std.proofs.lemmas.Slice.Eq.{bytes_eq-Decides}
use Rattle.std.specs.Str.{bytes_eq}
use Rattle.design.specs.Circuit.{Net}
use Rattle.design.specs.Design.{DesignView, IsDesign}
use Rattle.netlist.specs.Netlist.{name_at}
use Rattle.fanin_cone.specs.Cone.{pin_names}
use Rattle.fanin_cone.proofs.DesignNets.{name_at-circuit}

-- the pins that are left decide
pub record IsLeft (a b : DesignView) (pins others left right : List ℕ) : Type 0 where
  pub same_length : length left ≡ length right
  pub pins_below : All (λ pin. pin < length a.circuit) left
  pub others_below : All (λ pin. pin < length b.circuit) right
  pub decide : (pin_names a.netlist pins ≡ pin_names b.netlist others) ↔ (pin_names a.netlist left ≡ pin_names b.netlist right)

module _ (a b : DesignView) (ok_a : IsDesign a) (ok_b : IsDesign b) (pins others left right rest remaining : List ℕ) (pin other : ℕ) (name its_name : List ℕ)
    (known : IsLeft a b pins others left right) (first : left ≡ pin ∷ rest) (second : right ≡ other ∷ remaining)
    (named : option_map (λ (net : Net). net.name) (slice_get a.circuit pin) ≡ Some name)
    (also_named : option_map (λ (net : Net). net.name) (slice_get b.circuit other) ≡ Some its_name) where
  decides : (pin_names a.netlist pins ≡ pin_names b.netlist others)
      ↔ (name_at a.netlist pin ∷ pin_names a.netlist rest ≡ name_at b.netlist other ∷ pin_names b.netlist remaining)
  decides =
      subst (λ l. (pin_names a.netlist pins ≡ pin_names b.netlist others) ↔ (pin_names a.netlist l ≡ pin_names b.netlist (other ∷ remaining))) first
      (subst (λ l. (pin_names a.netlist pins ≡ pin_names b.netlist others) ↔ (pin_names a.netlist left ≡ pin_names b.netlist l)) second known.decide)

  pub IsLeft-next : not (bytes_eq name its_name) ≡ false → IsLeft a b pins others rest remaining
  IsLeft-next same =
      let equal : name ≡ its_name = (bytes_eq-Decides name its_name).0 (twice (bytes_eq name its_name) same) in
      let head : name_at a.netlist pin ≡ name_at b.netlist other =
      name_at-circuit a ok_a pin name named ∙ equal ∙ sym (name_at-circuit b ok_b other its_name also_named) in
      record {
        same_length = omega (arith, ap length first, ap length second, known.same_length);
        pins_below = All-rest (λ pin. pin < length a.circuit) pin rest left first known.pins_below;
        others_below = All-rest (λ pin. pin < length b.circuit) other remaining right second known.others_below;
        decide = (λ e. let both = decides.0 e in cc, λ e. decides.1 (cc));
      }
    where
      twice : (b : Bool) → not b ≡ false → b ≡ true
      twice true e = refl
      twice false e = sym e

  pub IsLeft-differ : not (bytes_eq name its_name) ≡ true → pin_names a.netlist pins ≡ pin_names b.netlist others → false ≡ true
  IsLeft-differ differ e =
      let both = decides.0 e in
      let head : name_at a.netlist pin ≡ name_at b.netlist other = cc in
      let equal : name ≡ its_name = sym (name_at-circuit a ok_a pin name named) ∙ head ∙ name_at-circuit b ok_b other its_name also_named in
      sym (ap not ((bytes_eq-Decides name its_name).1 equal)) ∙ differ
