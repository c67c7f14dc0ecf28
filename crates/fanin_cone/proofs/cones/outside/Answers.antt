use Rattle.std.proofs.Common.{drop, length, map, not, ap, ◌∙◌, subst, arith}
use Rattle.std.proofs.lemmas.Result.{IfOk-weaker}
use Rattle.netlist.specs.Netlist.{name_at}
use Rattle.fanin_cone.specs.Cone.{IsOutsideOf}
use Rattle.fanin_cone.specs.Walk.{NumbersMarked}
use Rattle.fanin_cone.proofs.Flipped.{IsOutsideOf-flipped}
use Rattle.fanin_cone.proofs.Listed.{take-written}
use Rattle.fanin_cone.proofs.cones.outside.Goals as goal

pub returns : goal.returns
returns c =
    let marks = c.in_ok-marks.marks.items in
    let flipped = c.flip.new.marks in
    let whole = take-written c.in_ok-marks.marks.len flipped (drop (length flipped) marks) (omega (arith, c.flip.auto.marks, c.as_mut_slice.ensures.len)) in
    let old = c.flip.ensures ∙ ap (map not) c.as_mut_slice.ensures.value in
    IfOk-weaker c.marked_nets.result (λ nets. NumbersMarked c.as_slice.result.now nets.items)
    (λ nets. IsOutsideOf c.args.netlist.now (map (name_at c.args.netlist.now) c.args.starts.now) nets.items)
    (λ nets numbers. IsOutsideOf-flipped c.args.netlist.now (map (name_at c.args.netlist.now) c.args.starts.now) marks nets.items c.in_ok-marks.ensures.size
    c.in_ok-marks.ensures.cone (subst (λ marks. NumbersMarked marks nets.items) (c.as_slice.ensures.value ∙ whole ∙ old) numbers))
    c.marked_nets.ensures
