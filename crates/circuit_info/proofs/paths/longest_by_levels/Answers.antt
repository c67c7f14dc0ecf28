use Rattle.std.proofs.Common.{◌≡◌, ℕ, List, cond, sym, subst}
use Rattle.netlist.specs.Netlist.{NetlistView}
use Rattle.netlist.specs.Repeats.{times}
use Rattle.netlist.specs.Flow.{is_gate_in, FollowsFlow}
use Rattle.circuit_info.proofs.Longest.{AreLongest-passed, IsPassedOver-more, IsPassedOver-none}
use Rattle.circuit_info.proofs.OnePass.{order_below}
use Rattle.circuit_info.proofs.paths.longest_by_levels.Goals as goal

-- what is known of the order, by other names of it and of the netlist
each_is : (netlist same : NetlistView) (order items : List ℕ) → netlist ≡ same → order ≡ items →
    ((net : ℕ) → times net items ≡ cond (is_gate_in netlist.nets net) 1 0) → (net : ℕ) → times net order ≡ cond (is_gate_in same.nets net) 1 0
each_is netlist same order items is are each net = rw (← is, are) (each net)

follows_is : (netlist same : NetlistView) (order items : List ℕ) → netlist ≡ same → order ≡ items →
    FollowsFlow netlist.nets items → FollowsFlow same.nets order
follows_is netlist same order items is are follows =
    subst (λ (netlist : NetlistView). FollowsFlow netlist.nets order) is (subst (FollowsFlow netlist.nets) (sym are) follows)

pub loop-gate-init : goal.loop-gate-init
loop-gate-init c =
    rw c.in_ok-ticks.ensures.delays (IsPassedOver-none c.args.design.now c.in_ok-ticks.ensures.formed c.deref-gate-items.result.now)

pub gate_ticks-requires-clause-gate : goal.gate_ticks-requires-clause-gate
gate_ticks-requires-clause-gate c =
    order_below c.args.design.now.netlist c.deref-gate-items.result.now
    (each_is c.netlist.result.now c.args.design.now.netlist c.deref-gate-items.result.now c.in_ok-gates.gates.items c.netlist.ensures
    c.deref-gate-items.ensures.value c.in_ok-gates.ensures.each) c.loop-gate.gate-index c.loop-gate-test.true

pub loop-gate-preserved : goal.loop-gate-preserved
loop-gate-preserved c =
    let computed = rw c.as_slice.ensures.value at c.gate_ticks.ensures in
    IsPassedOver-more c.args.design.now c.in_ok-ticks.ensures.formed c.deref-gate-items.result.now
    (each_is c.netlist.result.now c.args.design.now.netlist c.deref-gate-items.result.now c.in_ok-gates.gates.items c.netlist.ensures
    c.deref-gate-items.ensures.value c.in_ok-gates.ensures.each)
    c.loop-gate.ticks.items c.loop-gate.gate-index c.loop-gate-test.true c.loop-gate.invariant
    (follows_is c.netlist.result.now c.args.design.now.netlist c.deref-gate-items.result.now c.in_ok-gates.gates.items c.netlist.ensures
    c.deref-gate-items.ensures.value c.in_ok-gates.ensures.behind)
    c.args.levels.now c.requires.levels c.requires.few c.gate_ticks.result computed

pub returns : goal.returns
returns c =
    AreLongest-passed c.args.design.now c.in_ok-ticks.ensures.formed c.deref-gate-items.result.now
    (each_is c.netlist.result.now c.args.design.now.netlist c.deref-gate-items.result.now c.in_ok-gates.gates.items c.netlist.ensures
    c.deref-gate-items.ensures.value c.in_ok-gates.ensures.each)
    c.loop-gate.ticks.items c.loop-gate.gate-index c.loop-gate-test.false c.loop-gate.invariant
