use Rattle.std.proofs.Common.{◌≡◌, ℕ, List, ◌++◌, map, cond, ap, sym, ◌∙◌, subst}
use Rattle.netlist.specs.Netlist.{NetView, NetlistView}
use Rattle.netlist.specs.Repeats.{times}
use Rattle.netlist.specs.Flow as netlist
use Rattle.design.specs.Design.{untimed}
use Rattle.design.specs.Flow.{nets_of_rank, FollowsFlow}
use Rattle.design.proofs.Ordered.{order_once, order_all, order_within, order_parts, order_follows}
use Rattle.design.proofs.order.flow_order.Goals as goal
use Rattle.design.proofs.order.flow_order.Goals.{In_ok-order}

-- what was put together
whole : (c : In_ok-order) →
    c.in_ok-order.order.items ≡ nets_of_rank c.args.design.now.circuit 0 ++ c.in_ok-gates.gates.items ++ nets_of_rank c.args.design.now.circuit 2
whole c =
    c.in_ok-order.ensures.nets
    ∙ ap (λ (gates : List ℕ). nets_of_rank c.args.design.now.circuit 0 ++ gates ++ nets_of_rank c.args.design.now.circuit 2) c.as_slice.ensures.value

-- the gates of the netlist are those of the circuit
same_nets : (c : In_ok-order) → c.netlist.result.now.nets ≡ map untimed c.args.design.now.circuit
same_nets c = ap (λ (n : NetlistView). n.nets) c.netlist.ensures ∙ sym c.in_ok-order.ensures.formed.same_nets

each : (c : In_ok-order) → (net : ℕ) → times net c.in_ok-gates.gates.items ≡ cond (netlist.is_gate_in (map untimed c.args.design.now.circuit) net) 1 0
each c =
    subst (λ (nets : List NetView). (net : ℕ) → times net c.in_ok-gates.gates.items ≡ cond (netlist.is_gate_in nets net) 1 0)
    (same_nets c) c.in_ok-gates.ensures.each

follows : (c : In_ok-order) → FollowsFlow c.args.design.now.circuit c.in_ok-gates.gates.items
follows c = subst (λ (nets : List NetView). netlist.FollowsFlow nets c.in_ok-gates.gates.items) (same_nets c) c.in_ok-gates.ensures.behind

pub returns-clause-within : goal.returns-clause-within
returns-clause-within c =
    let at = (goal.at.returns-clause-within c).In_ok-order in
    rw (whole at) (order_within c.args.design.now.circuit c.in_ok-gates.gates.items (each at))

pub returns-clause-once : goal.returns-clause-once
returns-clause-once c =
    let at = (goal.at.returns-clause-once c).In_ok-order in
    rw (whole at) (order_once c.args.design.now.circuit c.in_ok-gates.gates.items (each at))

pub returns-clause-all : goal.returns-clause-all
returns-clause-all c =
    let at = (goal.at.returns-clause-all c).In_ok-order in
    rw (whole at) (order_all c.args.design.now.circuit c.in_ok-gates.gates.items (each at))

pub returns-clause-parts : goal.returns-clause-parts
returns-clause-parts c =
    let at = (goal.at.returns-clause-parts c).In_ok-order in
    rw (whole at) (order_parts c.args.design.now.circuit c.in_ok-gates.gates.items (each at))

pub returns-clause-behind : goal.returns-clause-behind
returns-clause-behind c =
    let at = (goal.at.returns-clause-behind c).In_ok-order in
    rw (whole at) (order_follows c.args.design.now.circuit c.in_ok-gates.gates.items (each at) (follows at))
