use Rattle.std.proofs.Common.{◌≡◌, map, sym, ap, ◌∙◌, subst}
use Rattle.std.proofs.lemmas.Result.{IfOk-weaker}
use Rattle.netlist.specs.Netlist.{IsNetlist}
use Rattle.netlist.specs.Pick.{picked, place_in}
use Rattle.netlist.proofs.Picked.{netlist_view-picked, IsNetlist-picked}
use Rattle.netlist.proofs.netlist.Netlist.pick.Goals as goal

pub new-requires-clause-well_formed : goal.new-requires-clause-well_formed
new-requires-clause-well_formed c =
    let places = c.renumber.ensures ∙ ap (map (place_in c.args.keep.now)) (c.as_mut_slice.ensures.value ∙ c.in_ok-outputs.ensures.items) in
    subst IsNetlist
    (sym (netlist_view-picked c.args.self.now c.args.keep.now c.args.outputs.now _ _ _ _ _ c.in_ok-names.ensures.names c.in_ok-nets.ensures c.in_ok-outputs.ensures.len places))
    (IsNetlist-picked c.args.self.now c.in_ok-names.ensures.well_formed c.args.keep.now c.requires.rising c.requires.nets c.args.outputs.now
    c.requires.some c.requires.pins c.requires.outputs c.requires.outputs_once)

pub returns : goal.returns
returns c =
    let places = c.renumber.ensures ∙ ap (map (place_in c.args.keep.now)) (c.as_mut_slice.ensures.value ∙ c.in_ok-outputs.ensures.items) in
    IfOk-weaker c.new.result _ (λ netlist. netlist ≡ picked c.args.self.now c.args.keep.now c.args.outputs.now)
    (λ netlist is. is
    ∙ netlist_view-picked c.args.self.now c.args.keep.now c.args.outputs.now _ _ _ _ _ c.in_ok-names.ensures.names c.in_ok-nets.ensures c.in_ok-outputs.ensures.len places)
    c.new.ensures
