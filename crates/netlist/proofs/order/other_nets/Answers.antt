use Rattle.std.proofs.Common.{not, ap, sym, ◌∙◌, ◌++◌, ◌∷◌, [], arith}
use Rattle.std.proofs.lemmas.List.FromFn.{map-range_with_len_more}
use Rattle.netlist.specs.Part.{is_gate}
use Rattle.netlist.specs.Flow.{is_gate_in}
use Rattle.netlist.proofs.order.other_nets.Goals as goal

pub loop-net-preserved : goal.loop-net-preserved
loop-net-preserved c =
    let here = c.is_gate.ensures ∙ ap is_gate c.part.ensures in
    c.in_ok-push.ensures.items
    ∙ (λ i. c.loop-net.invariant i ++ not (here i) ∷ [])
    ∙ sym (map-range_with_len_more (λ net. not (is_gate_in c.args.netlist.now.nets net)) 0 c.loop-net.net c.loop-net.net (omega arith))
