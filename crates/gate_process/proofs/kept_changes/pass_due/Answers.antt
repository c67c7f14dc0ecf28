use Rattle.std.proofs.Common.{◌+◌, ap, sym, subst, refl, ◌∙◌, arith}
use Rattle.std.proofs.lemmas.Bool.{le-leb, lt-leb}
use Rattle.gate_process.specs.Knowledge.{delayed_changes}
use Rattle.gate_process.specs.LaterChanges.{passed_value, passed_left}
use Rattle.gate_process.proofs.Delayed.{Passes, passes_one, value_stops, left_stops, value_at_end, left_at_end}
use Rattle.gate_process.proofs.kept_changes.pass_due.Goals as goal
use Rattle.gate_process.proofs.kept_changes.pass_due.Goals.{in-Some+then-seen_tick-tick, in_default}

pub loop-first-init : goal.loop-first-init
loop-first-init c = record { value_is = refl; left_is = refl }

pub loop-first-smaller : goal.loop-first-smaller
loop-first-smaller c = omega (arith, c.in-Some.ensures.cases.1)

pub loop-first-preserved : goal.loop-first-preserved
loop-first-preserved c =
    let first = c.in-Some.first.now in
    let others = c.in-Some.others.now in
    let passes = subst (λ left. Passes c.args.wire c.args.tick c.loop-first.value left c.args.before c.args.changes.now)
    c.in-Some.ensures.cases.0 c.loop-first.invariant in
    rw c.value-value.ensures
    (passes_one c.args.wire c.args.tick c.loop-first.value first others c.args.before c.args.changes.now
    (le-leb (first.tick + c.args.wire) c.args.tick (omega (arith, c.seen_tick.ensures, c.if-seen_tick-tick.false))) passes)

pub returns-clause-value : goal.returns-clause-value
returns-clause-value c =
    let wire = c.args.wire in
    let tick = c.args.tick in
    let value = c.loop-first.value in
    elim c.match-split_first.branch [
      | in-Some+then-seen_tick-tick w ↦
          let first = w.in-Some.first.now in
          let late = lt-leb (first.tick + wire) tick (omega (arith, w.seen_tick.ensures, w.if-seen_tick-tick.true)) in
          sym (ap (passed_value wire tick value) w.in-Some.ensures.cases.0 ∙ value_stops wire tick value first w.in-Some.others.now late)
          ∙ c.loop-first.invariant.value_is
      | in_default w ↦ sym (value_at_end wire tick value c.loop-first.left.now w.in_default.ensures.cases) ∙ c.loop-first.invariant.value_is
    ]

pub returns-clause-left : goal.returns-clause-left
returns-clause-left c =
    let wire = c.args.wire in
    let tick = c.args.tick in
    elim c.match-split_first.branch [
      | in-Some+then-seen_tick-tick w ↦
          let first = w.in-Some.first.now in
          let late = lt-leb (first.tick + wire) tick (omega (arith, w.seen_tick.ensures, w.if-seen_tick-tick.true)) in
          ap (delayed_changes wire) w.in-Some.ensures.cases.0
          ∙ sym (left_stops wire tick c.loop-first.value first w.in-Some.others.now late)
          ∙ sym (ap (passed_left wire tick) w.in-Some.ensures.cases.0) ∙ c.loop-first.invariant.left_is
      | in_default w ↦ sym (left_at_end wire tick c.loop-first.left.now w.in_default.ensures.cases) ∙ c.loop-first.invariant.left_is
    ]
