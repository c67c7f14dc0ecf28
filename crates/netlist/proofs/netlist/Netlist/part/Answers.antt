use Rattle.std.proofs.Common.{[], sym, ap, ◌∙◌, arith}
use Rattle.std.proofs.lemmas.Slice.Zip.{get_or-zip, length-zip}
use Rattle.flat_lists.specs.Parts.{parts}
use Rattle.netlist.proofs.Joined.{length-named_nets, net_at-netlist_view}
use Rattle.netlist.proofs.netlist.Netlist.part.Goals as goal

pub index-requires : goal.index-requires
index-requires c =
    let known = rw (← c.self.view_is) at c.requires in
    let lists = parts c.self.inside.first_pins.items c.self.inside.pins.items in
    omega (arith, known, length-named_nets _ _ c.self.invariant.joined.same_length, length-zip c.self.inside.drivers.items lists, c.self.inside.drivers.ok.0)

pub returns : goal.returns
returns c =
    let known = rw (← c.self.view_is) at c.requires in
    let part = c.index.result.now in
    let lists = parts c.self.inside.first_pins.items c.self.inside.pins.items in
    let long = length-zip c.self.inside.drivers.items lists in
    let nets = length-named_nets _ _ c.self.invariant.joined.same_length in
    let stored = net_at-netlist_view _ _ c.self.invariant.joined.same_length c.self.inside.outputs.items c.args.net known (part, []) in
    rw (← c.self.view_is, stored)
    (c.index.ensures ∙ ap (λ both. both.0) (sym (get_or-zip c.self.inside.drivers.items lists c.args.net (part, []) (omega (arith, known, nets, long)) (omega (arith, known, nets, long)))))
