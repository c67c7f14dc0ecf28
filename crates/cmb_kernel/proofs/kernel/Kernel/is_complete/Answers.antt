use Rattle.std.proofs.Common.{◌==◌, eqb-true, ap, sym, subst, ◌∙◌, arith}
use Rattle.std.proofs.lemmas.Bool.{OnTrue_from, OnTrue_at}
use Rattle.cmb_kernel.specs.State.{KernelView, least_frontier}
use Rattle.cmb_kernel.specs.Sound.{IsSound}
use Rattle.cmb_kernel.proofs.Running.{waves_are, waves_whole}
use Rattle.cmb_kernel.proofs.Completion.{complete_from_least, frontier_when_complete, is_complete-true, least_tells}
use Rattle.cmb_kernel.proofs.kernel.Kernel.is_complete.Goals as goal
use Rattle.cmb_kernel.proofs.kernel.Kernel.is_complete.Goals.{After-least_frontier}

pub returns-clause-complete : goal.returns-clause-complete
returns-clause-complete g c =
    let all = c.self.invariant (rw (← c.self.view_is) at c.requires) in
    ap (λ n. n == c.self.inside.end) c.least_frontier.ensures
    ∙ ap (λ n. least_frontier c.args.self.now.end c.args.self.now.state == n) (ap (λ (r : KernelView). r.end) c.self.view_is)
    ∙ least_tells c.args.self.now.circuit c.args.self.now.end c.args.self.now.state
    (subst (λ (kernel : KernelView). IsSound kernel.circuit kernel.end kernel.state) c.self.view_is all.sound)

pub returns-clause-frontiers : goal.returns-clause-frontiers
returns-clause-frontiers g c =
    let all = c.self.invariant (rw (← c.self.view_is) at c.requires) in
    let sound = subst (λ (kernel : KernelView). IsSound kernel.circuit kernel.end kernel.state) c.self.view_is all.sound in
    OnTrue_from (c.least_frontier.result == c.self.inside.end) _ (λ is.
    frontier_when_complete c.args.self.now.circuit c.args.self.now.end c.args.self.now.state sound
    (is_complete-true c.args.self.now.state (sym (returns-clause-complete g c) ∙ is)))

pub returns-clause-waves : goal.returns-clause-waves
returns-clause-waves g c =
    let all = c.self.invariant (rw (← c.self.view_is) at c.requires) in
    let least = rw (← c.self.view_is) at c.least_frontier.ensures in
    OnTrue_from (c.least_frontier.result == c.self.inside.end) _ (λ is.
    let at_end = eqb-true _ _ is in
    rw (← c.self.view_is)
    (waves_are all (complete_from_least c.self.inside.design.now.circuit c.self.inside.end _ all.sound (omega (arith, at_end, least)))))

pub returns-clause-undrained : goal.returns-clause-undrained
returns-clause-undrained g c = λ undrained.
    OnTrue_from (c.least_frontier.result == c.self.inside.end) _ (λ is.
    OnTrue_at is (returns-clause-waves g c) ∙ waves_whole c.args.self.now.circuit c.args.self.now.end c.args.self.now.state undrained)
