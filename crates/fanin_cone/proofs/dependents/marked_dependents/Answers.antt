use Rattle.std.proofs.Common.{◌≡◌, ◌∙◌, drop, length, subst, arith, rules}
use Rattle.fanin_cone.specs.Dependents.{fed_nets}
use Rattle.fanin_cone.specs.Walk.{Marks}
use Rattle.fanin_cone.proofs.Listed.{take-written}
use Rattle.fanin_cone.proofs.Spreading.{IsSpread, IsSpread-fed, IsSpread-starts, MarksDependents-spread}
use Rattle.fanin_cone.proofs.dependents.marked_dependents.Goals as goal

pub loop-net-init : goal.loop-net-init
loop-net-init c =
    let marks = c.mark.new.marks in
    let whole = take-written c.in_ok-marks.marks.len marks (drop (length marks) c.in_ok-marks.marks.items) (omega (arith, c.mark.auto.marks, c.deref_mut.ensures.len)) in
    rw whole (IsSpread-starts c.args.design.now c.nets.ensures.well_formed c.args.starts.now marks c.mark.new.list.items c.requires (search (rules, c.in_ok-mark.ensures)))

pub loop-net-preserved : goal.loop-net-preserved
loop-net-preserved c =
    let marks = c.mark-in-Some.new.marks in
    let old = c.loop-net.marks.items in
    let rest = c.pop.new.self.items in
    let waiting = c.mark-in-Some.new.list.items in
    let spread = subst (IsSpread c.args.design.now c.args.starts.now old) c.in-Some.ensures.items c.loop-net.invariant in
    let whole = take-written c.loop-net.marks.len marks (drop (length marks) old) (omega (arith, c.mark-in-Some.auto.marks, c.deref_mut-in-Some.ensures.len)) in
    let fed : c.as_slice.result.now ≡ fed_nets c.args.design.now.circuit c.in-Some.net = c.as_slice.ensures.value ∙ c.in_ok-list_fed.ensures.fed in
    let marked : Marks c.as_slice.result.now old marks rest waiting = search (rules, c.in_ok-mark-2.ensures) in
    rw whole (IsSpread-fed c.args.design.now c.nets.ensures.well_formed c.args.starts.now old marks rest waiting c.in-Some.net spread
    (subst (λ nets. Marks nets old marks rest waiting) fed marked))

pub returns : goal.returns
returns c =
    MarksDependents-spread c.args.design.now c.nets.ensures.well_formed c.args.starts.now c.loop-net.marks.items c.requires
    (subst (IsSpread c.args.design.now c.args.starts.now c.loop-net.marks.items) (search rules) c.loop-net.invariant)
