use Rattle.std.proofs.Common.{◌≡◌, ℕ, ◌==◌, not, List, cond, subst, sym, ◌∙◌, arith}
use Rattle.std.proofs.lemmas.List.{take_all}
use Rattle.std.proofs.lemmas.List.Sums.{count_by-le-length}
use Rattle.netlist.specs.Repeats.{times}
use Rattle.netlist.specs.Flow.{is_gate_in, FollowsFlow}
use Rattle.circuit_info.proofs.OnePass.{all_known, order_below, IsPassed, IsPassed-known, IsPassed-unknown}
use Rattle.circuit_info.proofs.Knowing.{KnowsLevels-passed}
use Rattle.circuit_info.proofs.levels.known_levels.Goals as goal
use Rattle.circuit_info.proofs.levels.known_levels.Goals.{In-loop-gate, then-first_unknown-pins, else-first_unknown-pins}

-- what is known of the gates that are gone through
each : (c : In-loop-gate) → (net : ℕ) → times net c.deref-gate-items.result.now ≡ cond (is_gate_in c.args.netlist.now.nets net) 1 0
each c =
    subst (λ (order : List ℕ). (net : ℕ) → times net order ≡ cond (is_gate_in c.args.netlist.now.nets net) 1 0)
    (sym c.deref-gate-items.ensures.value) c.in_ok-gates.ensures.each

follows : (c : In-loop-gate) → FollowsFlow c.args.netlist.now.nets c.deref-gate-items.result.now
follows c = subst (FollowsFlow c.args.netlist.now.nets) (sym c.deref-gate-items.ensures.value) c.in_ok-gates.ensures.behind

pub pins_of-pins-requires : goal.pins_of-pins-requires
pins_of-pins-requires c =
    order_below c.args.netlist.now c.deref-gate-items.result.now (each (goal.at.pins_of-pins-requires c).In-loop-gate) c.loop-gate.gate-index c.loop-gate-test.true

pub loop-gate-preserved : goal.loop-gate-preserved
loop-gate-preserved c =
    let at = (goal.at.loop-gate-preserved c).In-loop-gate in
    elim c.if-first_unknown-pins.branch [
      | then-first_unknown-pins w ↦
          let known = rw (c.as_slice.ensures.value, c.pins_of-pins.ensures) at c.first_unknown.ensures.known in
          let past = rw c.pins_of-pins.ensures at w.if-first_unknown-pins.true in
          rw (w.levels-is, w.level_above.ensures, w.as_slice-then-first_unknown-pins.ensures.value, c.pins_of-pins.ensures)
          (IsPassed-known c.args.netlist.now c.deref-gate-items.result.now (each at) c.loop-gate.levels.items c.loop-gate.gate-index c.loop-gate-test.true c.loop-gate.invariant
          (all_known c.args.netlist.now c.loop-gate.levels.items _ c.first_unknown.result known past))
      | else-first_unknown-pins w ↦
          let inside = rw c.pins_of-pins.ensures at w.if-first_unknown-pins.false in
          let unknown = rw (c.as_slice.ensures.value, c.pins_of-pins.ensures) at (c.first_unknown.ensures.unknown w.if-first_unknown-pins.false) in
          rw w.levels-is
          (IsPassed-unknown c.args.netlist.now c.deref-gate-items.result.now (each at) c.loop-gate.levels.items c.loop-gate.gate-index c.loop-gate-test.true c.loop-gate.invariant
          (follows at) c.first_unknown.result inside unknown)
    ]

pub returns-clause-known : goal.returns-clause-known
returns-clause-known c =
    KnowsLevels-passed c.args.netlist.now c.in_ok-gates.gates.items c.in_ok-gates.ensures.each c.loop-gate.levels.items
    (subst (λ (order : List ℕ). IsPassed c.args.netlist.now order c.loop-gate.levels.items)
    (take_all c.loop-gate.gate-index c.deref-gate-items.result.now (omega arith) ∙ c.deref-gate-items.ensures.value) c.loop-gate.invariant)

pub returns-clause-few : goal.returns-clause-few
returns-clause-few c = λ net.
    omega (arith, c.loop-gate.invariant.few net, count_by-le-length (λ level. not (level == 0)) c.loop-gate.levels.items, c.loop-gate.invariant.size)
