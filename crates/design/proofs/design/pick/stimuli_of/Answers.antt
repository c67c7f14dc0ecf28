use Rattle.design.specs.Circuit.{Net}
use Rattle.design.specs.PickedDesign.{stimuli_in}
use Rattle.design.proofs.Picked.{images_more, net_in-told}
use Rattle.design.proofs.design.pick.stimuli_of.Goals as goal

pub loop-net-preserved : goal.loop-net-preserved
loop-net-preserved c =
    let circuit = c.args.design.now.circuit in
    images_more (stimuli_in circuit) c.loop-net.stimuli _ c.stimuli.result.now c.args.nets.now c.loop-net.net-index c.loop-net-test.true
    c.in_ok-push.ensures.ok c.loop-net.invariant (net_in-told (λ (net : Net). net.stimuli) circuit _ _ c.stimuli.ensures)
