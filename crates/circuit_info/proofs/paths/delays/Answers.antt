use Rattle.std.proofs.Common.{◌∷◌, [], ◌++◌, sym, ◌∙◌, arith}
use Rattle.std.proofs.lemmas.List.FromFn.{map-range_with_len_more}
use Rattle.circuit_info.specs.Paths.{delay_at}
use Rattle.circuit_info.proofs.Longest.{delay_is}
use Rattle.circuit_info.proofs.paths.delays.Goals as goal

pub loop-net-preserved : goal.loop-net-preserved
loop-net-preserved c =
    let is = delay_is c.args.design.now c.nets-net-end.ensures.well_formed c.loop-net.net c.delay.result c.delay.ensures in
    c.in_ok-push.ensures.items
    ∙ (λ i. c.loop-net.invariant i ++ is i ∷ [])
    ∙ sym (map-range_with_len_more (delay_at c.args.design.now) 0 c.loop-net.net c.loop-net.net (omega arith))
