use Rattle.std.proofs.Common.{not, drop, length, map, ap, ◌∙◌, arith, subst}
use Rattle.fanin_cone.specs.Dependents.{MarksDependents}
use Rattle.fanin_cone.proofs.AgreeingMarks.{MarksAgreeing-flipped}
use Rattle.fanin_cone.proofs.Listed.{take-written}
use Rattle.fanin_cone.proofs.all_cones.agreeing_cones.Goals as goal

pub returns : goal.returns
returns c =
    let marks = c.in_ok-marks.marks.items in
    let flipped = c.flip.new.marks in
    let whole = take-written c.in_ok-marks.marks.len flipped (drop (length flipped) marks) (omega (arith, c.flip.auto.marks, c.as_mut_slice.ensures.len)) in
    let is = whole ∙ c.flip.ensures ∙ ap (map not) c.as_mut_slice.ensures.value in
    let dependents = subst (λ nets. MarksDependents c.args.first.now nets marks) c.as_slice.ensures.value c.in_ok-marks.ensures in
    MarksAgreeing-flipped c.args.first.now c.args.second.now c.args.horizon c.in_ok-differing.ensures.well_formed c.in_ok-differing.differing.items
    c.in_ok-differing.ensures.differing marks _ dependents is
