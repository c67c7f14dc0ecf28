-- The nets of a netlist by the stored names and nets.
use Rattle.std.proofs.Common.{◌≡◌, ℕ, ◌<◌, List, [], ◌∷◌, length, map, get_or, position, bytes_eq, slice_get, Some, refl, sym, ap, ◌∙◌, arith}
use Rattle.std.specs.Cmp.Lexicographic.{nat_list_eq_equiv}
use Rattle.std.specs.List.{zip}
use Rattle.std.proofs.lemmas.List.{length-map, get_or-map}
use Rattle.std.proofs.lemmas.Simd.{map-map}
use Rattle.std.proofs.lemmas.Option.{get_or_from_slice_get}
use Rattle.std.proofs.lemmas.Slice.Zip.{length-zip, get_or-zip, firsts-zip}
use Rattle.netlist.specs.declared.part.Part.{Part}
use Rattle.netlist.specs.Netlist.{NetView, NetlistView, net_at, net_named, name_at}
use Rattle.netlist.specs.Joined.{named_net, named_nets, netlist_view}
use Rattle.netlist.proofs.Places.{position-map}

-- two images of a list, side by side
pub zip_of_maps : {X Y Z : Type 0} (f : X → Y) (g : X → Z) (xs : List X) → zip (map f xs) (map g xs) ≡ map (λ x. (f x, g x)) xs
zip_of_maps f g [] = refl
zip_of_maps f g (x ∷ xs) = ap (λ rest. (f x, g x) ∷ rest) (zip_of_maps f g xs)

-- named nets that are wired as these
pub named_nets-wired : {A : Type 0} (name : A → List ℕ) (wiring : A → Part × List ℕ) (xs : List A) (nets : List (Part × List ℕ)) → nets ≡ map wiring xs →
    named_nets (map name xs) nets ≡ map (λ x. record { name = name x; part = (wiring x).0; pins = (wiring x).1 }) xs
named_nets-wired name wiring xs nets e = ap (named_nets (map name xs)) e ∙ go xs
  where
    go : (xs : List _) → named_nets (map name xs) (map wiring xs) ≡ map (λ x. record { name = name x; part = (wiring x).0; pins = (wiring x).1 }) xs
    go [] = refl
    go (x ∷ xs) = ap (λ more. record { name = name x; part = (wiring x).0; pins = (wiring x).1 } ∷ more) (go xs)

module _ (names : List (List ℕ)) (nets : List (Part × List ℕ)) (same : length names ≡ length nets) where
  pub length-named_nets : length (named_nets names nets) ≡ length nets
  length-named_nets = simp (length-map, length-zip) (omega arith)

  pub names-named_nets : map (λ (net : NetView). net.name) (named_nets names nets) ≡ names
  names-named_nets = map-map (λ (net : NetView). net.name) named_net (zip names nets) ∙ firsts-zip names nets (sym same)

  -- a name stands at the number of its net
  pub net_named-netlist_view : (outputs name : List ℕ) →
      net_named (netlist_view names nets outputs) name ≡ position (bytes_eq name) names
  net_named-netlist_view outputs name =
      sym (position-map (λ (net : NetView). net.name) (λ other. bytes_eq other name) (named_nets names nets))
      ∙ ap (position (λ other. bytes_eq other name)) names-named_nets
      ∙ (λ i. position (λ other. nat_list_eq_equiv.symm other name i) names)

  -- the name of a net, and what is stored of it
  module _ (outputs : List ℕ) (number : ℕ) (within : number < length (named_nets names nets)) where
    pub name-net_at : (net_at (netlist_view names nets outputs) number).name ≡ get_or names number []
    name-net_at =
        sym (get_or-map (λ (net : NetView). net.name) (named_nets names nets) number _ [] within)
        ∙ ap (λ names. get_or names number []) names-named_nets

    pub net_at-netlist_view : (net : Part × List ℕ) →
        net_at (netlist_view names nets outputs) number ≡ named_net (get_or names number [], get_or nets number net)
    net_at-netlist_view net =
        get_or-map named_net (zip names nets) number ([], net) _ (omega (arith, length-zip names nets, length-named_nets))
        ∙ ap named_net (get_or-zip names nets number ([], net) (omega (arith, length-named_nets)) (omega (arith, length-named_nets)))

  -- the name that is stored for a net
  pub name-stored : (netlist : NetlistView) (outputs : List ℕ) → netlist_view names nets outputs ≡ netlist → (number : ℕ) (name : List ℕ) →
      number < length netlist.nets → slice_get names number ≡ Some name → name ≡ name_at netlist number
  name-stored netlist outputs view number name within is =
      let known = rw (← view) at within in
      rw (← view, name-net_at outputs number known) (sym (get_or_from_slice_get names number name [] is))

  pub stored-within : (netlist : NetlistView) (outputs : List ℕ) → netlist_view names nets outputs ≡ netlist → (number : ℕ) →
      number < length netlist.nets → number < length names
  stored-within netlist outputs view number within =
      let known = rw (← view) at within in
      omega (arith, known, same, length-named_nets)
