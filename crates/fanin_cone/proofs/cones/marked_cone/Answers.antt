use Rattle.std.proofs.Common.{drop, length, subst, arith, rules}
use Rattle.fanin_cone.proofs.Listed.{take-written}
use Rattle.fanin_cone.proofs.Walking.{IsWalk, IsWalk-starts, IsWalk-pins, MarksCone-walk}
use Rattle.fanin_cone.proofs.cones.marked_cone.Goals as goal

pub loop-net-init : goal.loop-net-init
loop-net-init c =
    let marks = c.mark.new.marks in
    let whole = take-written c.in_ok-marks.marks.len marks (drop (length marks) c.in_ok-marks.marks.items) (omega (arith, c.mark.auto.marks, c.deref_mut.ensures.len)) in
    rw whole (IsWalk-starts c.args.netlist.now c.args.starts.now marks c.mark.new.list.items c.requires (search (rules, c.in_ok-mark.ensures)))

pub loop-net-preserved : goal.loop-net-preserved
loop-net-preserved c =
    let marks = c.mark-in-Some.new.marks in
    let walk = subst (IsWalk c.args.netlist.now c.args.starts.now c.loop-net.marks.items) c.in-Some.ensures.items c.loop-net.invariant in
    let whole = take-written c.loop-net.marks.len marks (drop (length marks) c.loop-net.marks.items) (omega (arith, c.mark-in-Some.auto.marks, c.deref_mut-in-Some.ensures.len)) in
    rw whole (IsWalk-pins c.args.netlist.now c.args.starts.now c.loop-net.marks.items marks c.pop.new.self.items c.mark-in-Some.new.list.items c.in-Some.net
    c.nets.ensures.well_formed walk (search (rules, c.in_ok-mark-2.ensures)))

pub returns-clause-cone : goal.returns-clause-cone
returns-clause-cone c =
    MarksCone-walk c.args.netlist.now c.args.starts.now c.loop-net.marks.items c.nets.ensures.well_formed c.requires
    (subst (IsWalk c.args.netlist.now c.args.starts.now c.loop-net.marks.items) (search rules) c.loop-net.invariant)
