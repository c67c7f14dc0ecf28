-- The timing of each net from what lines gave it.
use Rattle.std.proofs.Common.{◌≡◌, ℕ, ◌+◌, ◌<◌, List, [], ◌∷◌, ◌++◌, length, map, get_or, take, replicate, Option, None, Result, Ok, Err, refl, sym, ap, ◌∙◌}
use Rattle.std.specs.List.{range_with_len, zip}
use Rattle.std.specs.Option.{unwrap_or}
use Rattle.std.specs.Result.{result_map_both}
use Rattle.std.proofs.lemmas.List.{get_or-replicate, length-map, length-replicate, map_more, map_push}
use Rattle.std.proofs.lemmas.List.FromFn.{fill_by_all}
use Rattle.std.proofs.lemmas.Simd.{map-map}
use Rattle.netlist.specs.Netlist.{NetView, NetlistView}
use Rattle.netlist.proofs.CallerLemmas.{zip_of_maps}
use Rattle.timing_text.specs.declared.fault.DelayFault.{DelayFault}
use Rattle.timing_text.specs.declared.given.NetGiven.{NetGiven}
use Rattle.timing_text.specs.declared.line.Properties.{Properties}
use Rattle.timing_text.specs.declared.timing.Timing.{Timing}
use Rattle.timing_text.specs.TimingLines.{NetProperty}
use Rattle.timing_text.specs.GivenSoFar.{given_to_net, given_to_nets, seen_given}
use Rattle.timing_text.specs.Timings.{net_timings, properties_of, timing_of_net, timing_of_part, wire_named, wires_of_net}

-- a list grows by a thing that means what the next of another list means
pub map-both_more : {X Y Z : Type 0} (f : X → Z) (g : Y → Z) (xs : List X) (ys : List Y) (i : ℕ) (x : X) (d : Y) → i < length ys →
    map f xs ≡ map g (take i ys) → f x ≡ g (get_or ys i d) → map f (xs ++ x ∷ []) ≡ map g (take (i + 1) ys)
map-both_more f g xs ys i x d within same next =
    map_push f xs x ∙ (λ k. same k ++ next k ∷ []) ∙ sym (map_more g ys i d within)

-- at first no pin of a net has a wire delay
pub no_wires-replicate : (name : List ℕ) (count : ℕ) → replicate count None ≡ map (wire_named [] name) (range_with_len 0 count)
no_wires-replicate name count =
    fill_by_all (wire_named [] name) (replicate count None) count None (length-replicate count None) (λ k below. get_or-replicate count k None None below)

-- the timing of a net is made of what it was given
pub timing-made : (default period : ℕ) (lines : List NetProperty) (net : NetView) (given : NetGiven) (timing : Timing) →
    seen_given given ≡ given_to_net lines net → timing ≡ timing_of_part default period given.properties net.part →
    timing ≡ timing_of_net default period lines net
timing-made default period lines net given timing held timing_is =
    timing_is ∙ ap (λ (held : Properties × List (Option ℕ)). timing_of_part default period held.0 net.part) held

-- and so are the wire delays of its pins
pub wires-made : (lines : List NetProperty) (net : NetView) (given : NetGiven) (wires : List ℕ) →
    seen_given given ≡ given_to_net lines net → wires ≡ map (λ wire. unwrap_or wire 0) given.wires.items →
    wires ≡ wires_of_net lines net
wires-made lines net given wires held wires_are =
    wires_are ∙ ap (λ (held : Properties × List (Option ℕ)). map (λ wire. unwrap_or wire 0) held.1) held
    ∙ map-map (λ wire. unwrap_or wire 0) (wire_named lines net.name) (range_with_len 0 (length net.pins))

-- what is kept at the end is what the lines of the text gave
module _ (netlist : NetlistView) (text : List ℕ) (kept : List NetGiven)
    (given : Ok (map seen_given kept) ≡ result_map_both (given_to_nets netlist) (λ fault. fault) (properties_of netlist text)) where
  given-Ok : (lines : List NetProperty) × (properties_of netlist text ≡ Ok lines) × (map seen_given kept ≡ given_to_nets netlist lines)
  given-Ok = go (properties_of netlist text) refl given
    where
      go : (read : Result (List NetProperty) DelayFault) → properties_of netlist text ≡ read →
          Ok (map seen_given kept) ≡ result_map_both (given_to_nets netlist) (λ fault. fault) read →
          (lines : List NetProperty) × (properties_of netlist text ≡ Ok lines) × (map seen_given kept ≡ given_to_nets netlist lines)
      go (Ok lines) is same = (lines, is, (cc))
      go (Err fault) is same = (cc)

  -- so there is something of each net
  pub length-given : length kept ≡ length netlist.nets
  length-given = sym (length-map kept seen_given) ∙ ap length given-Ok.2 ∙ length-map netlist.nets (given_to_net given-Ok.0)

  -- and the timings and wire delays that are made of it are those of the text
  pub net_timings-made : (default period : ℕ) (timings : List Timing) (wires : List (List ℕ)) →
      ((lines : List NetProperty) → map seen_given kept ≡ given_to_nets netlist lines →
      timings ≡ map (timing_of_net default period lines) netlist.nets) →
      ((lines : List NetProperty) → map seen_given kept ≡ given_to_nets netlist lines → wires ≡ map (wires_of_net lines) netlist.nets) →
      Ok (zip timings wires) ≡ result_map_both (net_timings netlist default period) (λ fault. fault) (properties_of netlist text)
  net_timings-made default period timings wires timings_made wires_made =
      let lines = given-Ok.0 in
      let timings_are = timings_made lines given-Ok.2 in
      let wires_are = wires_made lines given-Ok.2 in
      (λ i. Ok (zip (timings_are i) (wires_are i)))
      ∙ ap Ok (zip_of_maps (timing_of_net default period lines) (wires_of_net lines) netlist.nets)
      ∙ ap (result_map_both (net_timings netlist default period) (λ fault. fault)) (sym given-Ok.1)
