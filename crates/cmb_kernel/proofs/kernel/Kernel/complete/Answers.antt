use Rattle.std.proofs.Common.{ap, sym, ◌∙◌, rules}
use Rattle.std.proofs.lemmas.Bool.{OnTrue_at}
use Rattle.cmb_kernel.proofs.Ahead.{never_costs}
use Rattle.cmb_kernel.specs.State.{State, KernelView, floor_at, most_rounds}
use Rattle.cmb_kernel.proofs.Completion.{frontier_when_complete, is_complete-true, led}
use Rattle.cmb_kernel.proofs.Mixed.{completed_floor}
use Rattle.cmb_kernel.proofs.Enough.{one_more_round, less_left, completed}
use Rattle.cmb_kernel.proofs.kernel.Kernel.complete.Goals as goal

pub loop-self-smaller : goal.loop-self-smaller
loop-self-smaller g c =
    let before = sym c.is_complete.ensures.complete ∙ c.loop-self-test.true in
    less_left c.args.self.now c.loop-self.self c.in_ok-check_running.ensures.circuit c.loop-self.invariant c.round.new.self c.in_ok-round.ensures.outcome.ok before

pub loop-self-preserved : goal.loop-self-preserved
loop-self-preserved g c =
    let incomplete = sym c.is_complete.ensures.complete ∙ c.loop-self-test.true in
    one_more_round c.args.self.now c.loop-self.self c.in_ok-check_running.ensures.circuit c.loop-self.invariant c.round.new.self c.in_ok-round.ensures.outcome.ok incomplete

pub returns-clause-outcome : goal.returns-clause-outcome
returns-clause-outcome g c = record {
  answer = search rules;
  ok = completed c.args.self.now c.loop-self.self c.in_ok-check_running.ensures.circuit c.loop-self.invariant c.in_ok-check_running.ensures.sound
      (sym c.is_complete.ensures.complete ∙ c.loop-self-test.false);
  refused = search rules;
  memory = search rules;
  sound = search rules;
}

pub returns-clause-waves : goal.returns-clause-waves
returns-clause-waves g c = OnTrue_at c.loop-self-test.false c.is_complete.ensures.waves

pub returns-clause-fresh : goal.returns-clause-fresh
returns-clause-fresh g c = λ count fresh.
    led c.args.self.now.state c.loop-self.self.state (sym c.is_complete.ensures.complete ∙ c.loop-self-test.false) c.loop-self.invariant.leads count
    (never_costs c.args.self.now.circuit c.in_ok-check_running.ensures.circuit c.args.self.now.end count c.args.self.now.state
    c.in_ok-check_running.ensures.sound fresh)

pub returns-clause-frontiers : goal.returns-clause-frontiers
returns-clause-frontiers g c =
    frontier_when_complete c.loop-self.self.circuit c.loop-self.self.end c.loop-self.self.state c.loop-self.invariant.sound
    (is_complete-true c.loop-self.self.state (sym c.is_complete.ensures.complete ∙ c.loop-self-test.false))

pub returns-clause-undrained : goal.returns-clause-undrained
returns-clause-undrained g c = λ undrained.
    let came = completed c.args.self.now c.loop-self.self c.in_ok-check_running.ensures.circuit c.loop-self.invariant
    c.in_ok-check_running.ensures.sound (sym c.is_complete.ensures.complete ∙ c.loop-self-test.false) in
    let state = ap (λ (r : KernelView). r.state) came in
    OnTrue_at c.loop-self-test.false (c.is_complete.ensures.undrained (λ net.
    ap (λ (s : State). floor_at s net) state
    ∙ completed_floor (most_rounds c.args.self.now.end c.args.self.now.circuit) c.args.self.now.state net ∙ undrained net))
