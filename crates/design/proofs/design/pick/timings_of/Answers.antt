use Rattle.std.proofs.Common.{map, take, ap, ◌∙◌, arith}
use Rattle.std.specs.List.{zip}
use Rattle.std.proofs.lemmas.List.{take_all}
use Rattle.netlist.proofs.CallerLemmas.{zip_of_maps}
use Rattle.design.specs.Circuit.{Net}
use Rattle.design.specs.PickedDesign.{net_in}
use Rattle.design.proofs.Picked.{images_more, net_in-told}
use Rattle.design.proofs.design.pick.timings_of.Goals as goal

pub loop-net-preserved : goal.loop-net-preserved
loop-net-preserved c =
    let circuit = c.args.design.now.circuit in
    record {
      timings = images_more (λ number. (net_in circuit number).timing) c.loop-net.timings.items _ c.timing.result c.args.nets.now c.loop-net.net-index c.loop-net-test.true
          c.in_ok-push.ensures.items c.loop-net.invariant.timings (net_in-told (λ (net : Net). net.timing) circuit _ _ c.timing.ensures);
      wires = images_more (λ number. (net_in circuit number).wires) c.loop-net.wires _ c.wires_of.result.now c.args.nets.now c.loop-net.net-index c.loop-net-test.true
          c.in_ok-push-2.ensures.ok c.loop-net.invariant.wires (net_in-told (λ (net : Net). net.wires) circuit _ _ c.wires_of.ensures);
    }

pub returns : goal.returns
returns c =
    let circuit = c.args.design.now.circuit in
    let nets = c.args.nets.now in
    let all = take_all c.loop-net.net-index nets (omega (arith, c.loop-net-test.false)) in
    (λ i. zip (c.loop-net.invariant.timings i) (c.loop-net.invariant.wires i))
    ∙ zip_of_maps (λ number. (net_in circuit number).timing) (λ number. (net_in circuit number).wires) (take c.loop-net.net-index nets)
    ∙ ap (map (λ number. ((net_in circuit number).timing, (net_in circuit number).wires))) all
