use Rattle.std.proofs.Common.{map, subst}
use Rattle.std.proofs.lemmas.Result.{IfOk-weaker}
use Rattle.netlist.specs.Netlist.{name_at}
use Rattle.fanin_cone.specs.Cone.{IsConeOf}
use Rattle.fanin_cone.specs.Walk.{NumbersMarked}
use Rattle.fanin_cone.proofs.Walking.{IsConeOf-marked}
use Rattle.fanin_cone.proofs.cones.cone_of.Goals as goal

pub returns : goal.returns
returns c =
    IfOk-weaker c.marked_nets.result (λ nets. NumbersMarked c.as_slice.result.now nets.items)
    (λ nets. IsConeOf c.args.netlist.now (map (name_at c.args.netlist.now) c.args.starts.now) nets.items)
    (λ nets numbers. IsConeOf-marked _ _ _ _ c.in_ok-marks.ensures.cone (subst (λ marks. NumbersMarked marks nets.items) c.as_slice.ensures.value numbers))
    c.marked_nets.ensures
