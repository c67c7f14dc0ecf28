use Rattle.std.proofs.Common.{◌≡◌, length, All, Contains, sym, ap, subst, ◌∙◌, arith}
use Rattle.netlist.specs.Netlist.{net_at}
use Rattle.netlist.specs.Pick.{picked}
use Rattle.netlist.proofs.CallerLemmas.{pins_exist, pins_few}
use Rattle.design.specs.Design.{DesignView, IsDesign}
use Rattle.design.specs.Pins.{all_fed}
use Rattle.design.proofs.Picked.{IsJoined-picked, design_view-picked, there}
use Rattle.design.proofs.Stored.{well_formed}
use Rattle.design.proofs.design.Design.pick.Goals as goal
use Rattle.design.proofs.design.Design.pick.Goals.{In_ok-netlist}

formed : (c : In_ok-netlist) → IsDesign c.args.self.now
formed c = well_formed c.self.invariant.joined c.self.view_is

picked_so : (c : In_ok-netlist) → c.in_ok-netlist.netlist ≡ picked c.args.self.now.netlist c.args.keep.now c.args.outputs.now
picked_so c = c.in_ok-netlist.ensures ∙ ap (λ (d : DesignView). picked d.netlist c.args.keep.now c.args.outputs.now) c.self.view_is

pub pick-requires-clause-pins : goal.pick-requires-clause-pins
pick-requires-clause-pins c =
    subst (λ (d : DesignView). All (λ number. All (Contains c.args.keep.now) (net_at d.netlist number).pins) c.args.keep.now) (sym c.self.view_is) c.requires.pins

pub timings_of-requires : goal.timings_of-requires
timings_of-requires c = there c.args.self.now (well_formed c.self.invariant.joined c.self.view_is) c.args.keep.now c.args.outputs.now c.requires.nets

pub stimuli_of-requires : goal.stimuli_of-requires
stimuli_of-requires c = there c.args.self.now (well_formed c.self.invariant.joined c.self.view_is) c.args.keep.now c.args.outputs.now c.requires.nets

pub joined-requires : goal.joined-requires
joined-requires c =
    let at = (goal.at.joined-requires c).In_ok-netlist in
    IsJoined-picked c.args.self.now (formed at) c.args.keep.now c.args.outputs.now c.requires.nets
    c.in_ok-netlist.netlist _ _ (picked_so at) c.in_ok-timed.ensures c.in_ok-stimuli.ensures
    c.in_ok-first_pins.first_pins.items c.in_ok-sources.sources.items c.in_ok-fed.fed
    c.in_ok-first_pins.ensures.well_formed c.in_ok-first_pins.ensures.starts c.in_ok-sources.ensures
    (c.in_ok-fed.ensures ∙ ap (all_fed c.nets.result) c.as_slice.ensures.value ∙ ap (λ nets. all_fed nets c.in_ok-sources.sources.items) c.nets.ensures.nets)

pub fed_pins-requires-clause-exist : goal.fed_pins-requires-clause-exist
fed_pins-requires-clause-exist c =
    let sources = c.as_slice.ensures.value ∙ c.in_ok-sources.ensures in
    rw (sources, c.nets.ensures.nets) (pins_exist c.in_ok-netlist.netlist c.nets.ensures.well_formed)

pub fed_pins-requires-clause-few : goal.fed_pins-requires-clause-few
fed_pins-requires-clause-few c =
    omega (arith, ap length (c.as_slice.ensures.value ∙ c.in_ok-sources.ensures), pins_few c.in_ok-netlist.netlist c.nets.ensures.well_formed)

pub returns : goal.returns
returns c =
    let at = (goal.at.returns c).In_ok-netlist in
    c.joined.ensures
    ∙ design_view-picked c.args.self.now (formed at) c.args.keep.now c.args.outputs.now c.requires.nets
    c.in_ok-netlist.netlist _ _ (picked_so at) c.in_ok-timed.ensures c.in_ok-stimuli.ensures
