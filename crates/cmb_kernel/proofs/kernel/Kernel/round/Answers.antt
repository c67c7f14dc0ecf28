use Rattle.std.proofs.Common.{◌≡◌, ◌+◌, ◌<◌, ◌≤◌, min, map, length, ap, sym, subst, ◌∙◌, rules}
use Rattle.std.specs.List.{range_with_len}
use Rattle.cmb_events.specs.declared.event.Event.TheVariants.{Advance}
use Rattle.cmb_kernel.specs.State.{State, KernelView, least_frontier, least_delay}
use Rattle.cmb_kernel.specs.Step.{steps, round_events, with_round}
use Rattle.cmb_kernel.proofs.Running.{with_rounds}
use Rattle.cmb_kernel.proofs.Moved.{moved_on, round_steps}
use Rattle.cmb_kernel.proofs.LeastFrontier.{round_raises}
use Rattle.cmb_kernel.proofs.UsefulEvents.{rises_by_delay}
use Rattle.cmb_kernel.proofs.kernel.Kernel.round.Given.{Over}
use Rattle.cmb_kernel.proofs.kernel.Kernel.round.Goals as goal
use Rattle.cmb_kernel.proofs.kernel.Kernel.round.Goals.{In_ok-advance_all}

-- the run before the round is counted
stepped : (g : Over) (c : In_ok-advance_all g) →
    c.advance_all.new.self ≡ record c.args.self.now { state = steps c.args.self.now.state (round_events c.args.self.now.state) }
stepped g c =
    moved_on c.args.self.now (λ (s : State). steps s (map Advance (range_with_len 0 (length s.processes)))) c.in_ok-deliver_all.ensures.ok
    c.in_ok-advance_all.ensures.ok (round_steps c.args.self.now.state)

pub invariant_of-self : goal.invariant_of-self
invariant_of-self g c = λ runs. with_rounds c.saturating_add-self-inside.result (c.self.invariant runs)

pub returns-clause-outcome : goal.returns-clause-outcome
returns-clause-outcome g c =
    let came = c.self.view_is ∙ stepped g (goal.at.returns-clause-outcome g c).In_ok-advance_all in
    record {
      answer = search rules;
      ok = rw c.saturating_add-self-inside.ensures (ap (λ (r : KernelView). record r { state = with_round r.state }) came);
      refused = search rules;
      memory = search rules;
      sound = λ runs. (with_rounds c.saturating_add-self-inside.result (c.self.invariant runs)).sound;
    }

pub returns-clause-raises : goal.returns-clause-raises
returns-clause-raises g c =
    let came = c.self.view_is ∙ stepped g (goal.at.returns-clause-raises g c).In_ok-advance_all in
    subst (λ (r : KernelView). min c.args.self.now.end (least_frontier c.args.self.now.end c.args.self.now.state
    + least_delay c.args.self.now.end c.args.self.now.circuit) ≤ least_frontier r.end r.state) (sym came)
    (round_raises c.args.self.now.circuit c.in_ok-check_running.ensures.circuit c.args.self.now.end c.args.self.now.state
    c.in_ok-check_running.ensures.sound)

pub returns-clause-rises : goal.returns-clause-rises
returns-clause-rises g c = λ below.
    let now = c.args.self.now in
    let came = c.self.view_is ∙ stepped g (goal.at.returns-clause-rises g c).In_ok-advance_all in
    subst (λ (r : KernelView). least_frontier now.end now.state < least_frontier r.end r.state) (sym came)
    (rises_by_delay now.circuit now.end _ _ c.in_ok-check_running.ensures.circuit
    (round_raises now.circuit c.in_ok-check_running.ensures.circuit now.end now.state c.in_ok-check_running.ensures.sound) below)
