use Rattle.std.proofs.Common.{◌≢◌, map, sym, ap, subst, ◌∙◌, refl, arith}
use Rattle.design.specs.Circuit.{IsCircuit}
use Rattle.gate_process.specs.Step.{ProcessState}
use Rattle.gate_process.proofs.CallerLemmas.{least-bound}
use Rattle.cmb_kernel.specs.State.{KernelView, least_frontier, IsComplete}
use Rattle.cmb_kernel.specs.Sound.{IsSound}
use Rattle.cmb_kernel.proofs.Running.{circuit_ok, waves_are, waves_whole}
use Rattle.cmb_kernel.proofs.Completion.{complete_from_least, frontier_when_complete, least_when_complete}
use Rattle.cmb_kernel.proofs.UsefulEvents.{waiting_useful, slowest_useful}
use Rattle.cmb_kernel.proofs.kernel.Kernel.useful.Given.{Over}
use Rattle.cmb_kernel.proofs.kernel.Kernel.useful.Goals as goal
use Rattle.cmb_kernel.proofs.kernel.Kernel.useful.Goals.{After-frontier, After-waiting_pin}

pub returns-then-frontier-self-clause-none : goal.returns-then-frontier-self-clause-none
returns-then-frontier-self-clause-none g c =
    let all = c.self.invariant (rw (← c.self.view_is) at c.requires) in
    let end = ap (λ (r : KernelView). r.end) c.self.view_is in
    let least = c.slowest-net.ensures.least in (
      (λ _.
          complete_from_least c.args.self.now.circuit c.args.self.now.end c.args.self.now.state
          (subst (λ (kernel : KernelView). IsSound kernel.circuit kernel.end kernel.state) c.self.view_is all.sound) (omega (arith, end, least))),
      (λ _. refl),
    )

pub returns-then-frontier-self-clause-frontiers : goal.returns-then-frontier-self-clause-frontiers
returns-then-frontier-self-clause-frontiers g c =
    let all = c.self.invariant (rw (← c.self.view_is) at c.requires) in
    let end = ap (λ (r : KernelView). r.end) c.self.view_is in
    let least = c.slowest-net.ensures.least in
    let sound = subst (λ (kernel : KernelView). IsSound kernel.circuit kernel.end kernel.state) c.self.view_is all.sound in
    frontier_when_complete c.args.self.now.circuit c.args.self.now.end c.args.self.now.state sound
    (complete_from_least c.args.self.now.circuit c.args.self.now.end c.args.self.now.state sound (omega (arith, end, least)))

pub returns-then-frontier-self-clause-waves : goal.returns-then-frontier-self-clause-waves
returns-then-frontier-self-clause-waves g c =
    let all = c.self.invariant (rw (← c.self.view_is) at c.requires) in
    let least = rw (← c.self.view_is) at c.slowest-net.ensures.least in
    let reached = rw (← c.self.view_is) at c.frontier.ensures.frontier in
    rw (← c.self.view_is)
    (waves_are all (complete_from_least c.self.inside.design.now.circuit c.self.inside.end _ all.sound (omega (arith, least, reached))))

pub returns-then-frontier-self-clause-undrained : goal.returns-then-frontier-self-clause-undrained
returns-then-frontier-self-clause-undrained g c = λ undrained.
    returns-then-frontier-self-clause-waves g c ∙ waves_whole c.args.self.now.circuit c.args.self.now.end c.args.self.now.state undrained

ok : (g : Over) (c : After-waiting_pin g) → IsCircuit c.args.self.now.circuit
ok g c =
    let all = c.self.invariant (rw (← c.self.view_is) at c.requires) in
    subst IsCircuit (ap (λ (r : KernelView). r.circuit) c.self.view_is) (circuit_ok all)

sound : (g : Over) (c : After-waiting_pin g) → IsSound c.args.self.now.circuit c.args.self.now.end c.args.self.now.state
sound g c =
    let all = c.self.invariant (rw (← c.self.view_is) at c.requires) in
    subst (λ (kernel : KernelView). IsSound kernel.circuit kernel.end kernel.state) c.self.view_is all.sound

-- the least frontier isn't the end
goes_on : (g : Over) (c : After-waiting_pin g) → least_frontier c.args.self.now.end c.args.self.now.state ≢ c.args.self.now.end
goes_on g c e =
    c.if-frontier-self.false (c.frontier.ensures.frontier ∙ c.slowest-net.ensures.least ∙ e ∙ sym (ap (λ (r : KernelView). r.end) c.self.view_is))

incomplete : (g : Over) (c : After-waiting_pin g) → IsComplete c.args.self.now.state → ⊥
incomplete g c complete =
    goes_on g c (least_when_complete c.args.self.now.circuit c.args.self.now.end c.args.self.now.state (sound g c) complete)

pub returns-in-Some-clause-none : goal.returns-in-Some-clause-none
returns-in-Some-clause-none g c =
    ((λ e. (cc)), (λ complete. absurd (incomplete g (goal.at.returns-in-Some-clause-none g c).After-waiting_pin complete)))

pub returns-in-Some-clause-some : goal.returns-in-Some-clause-some
returns-in-Some-clause-some g c =
    let known = (goal.at.returns-in-Some-clause-some g c).After-waiting_pin in
    let pin = c.in-Some.ensures.some in (
      pin.0,
      waiting_useful c.args.self.now.circuit (ok g known) c.args.self.now.end c.args.self.now.state (sound g known) c.in-Some.pin pin.0 pin.1,
    )

pub returns-in-None-clause-none : goal.returns-in-None-clause-none
returns-in-None-clause-none g c =
    ((λ e. (cc)), (λ complete. absurd (incomplete g (goal.at.returns-in-None-clause-none g c).After-waiting_pin complete)))

pub returns-in-None-clause-some : goal.returns-in-None-clause-some
returns-in-None-clause-some g c =
    let known = (goal.at.returns-in-None-clause-some g c).After-waiting_pin in
    let bound = least-bound c.args.self.now.end (map (λ (p : ProcessState). p.known.frontier) c.args.self.now.state.processes) in
    let apart = goes_on g known in (
      c.slowest-net.ensures.net,
      slowest_useful c.args.self.now.circuit (ok g known) c.args.self.now.end c.args.self.now.state (sound g known) c.in-None.ensures.none
          c.slowest-net.result c.slowest-net.ensures.net c.slowest-net.ensures.least (omega (arith, bound, apart)),
    )
