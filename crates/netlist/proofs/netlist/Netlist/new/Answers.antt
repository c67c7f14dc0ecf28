use Rattle.std.proofs.Common.{◌≡◌, map, sym, ap, subst, ◌∙◌}
use Rattle.std.specs.List.{zip}
use Rattle.std.proofs.lemmas.List.{length-map}
use Rattle.flat_lists.specs.Parts.{parts}
use Rattle.netlist.specs.declared.netlist.Net.{Net}
use Rattle.netlist.specs.Joined.{IsJoined, netlist_view, seen_net}
use Rattle.netlist.proofs.Joined.{zip_of_maps}
use Rattle.netlist.proofs.netlist.Netlist.new.Goals as goal
use Rattle.netlist.proofs.netlist.Netlist.new.Goals.{After-into_parts-pins}

-- what is stored is what the nets are
stored : (c : After-into_parts-pins) →
    zip c.in_ok-drivers.drivers.items (parts c.into_parts-pins.result.1.items c.into_parts-pins.result.0.items) ≡ map seen_net c.args.nets.items
stored c =
    let drivers = c.in_ok-drivers.ensures ∙ ap (map (λ (net : Net). net.part)) c.as_slice.ensures.value in
    let pins = c.into_parts-pins.ensures.lists ∙ c.in_ok-all_pins_of.ensures ∙ ap (map (λ (net : Net). net.pins.items)) c.as_slice-2.ensures.value in
    (λ i. zip (drivers i) (pins i)) ∙ zip_of_maps (λ (net : Net). net.part) (λ (net : Net). net.pins.items) c.args.nets.items

pub invariant_of-result : goal.invariant_of-result
invariant_of-result c =
    let is = stored (goal.at.invariant_of-result c).After-into_parts-pins in
    record {
      joined = subst (λ nets. IsJoined c.args.names nets c.args.outputs.items) (sym is)
          (record { same_length = c.requires.same_length ∙ sym (length-map c.args.nets.items seen_net); well_formed = c.requires.well_formed });
      bounds = c.into_parts-pins.ensures.bounds;
    }

pub returns : goal.returns
returns c =
    ap (λ nets. netlist_view c.args.names nets c.args.outputs.items) (stored (goal.at.returns c).After-into_parts-pins)
