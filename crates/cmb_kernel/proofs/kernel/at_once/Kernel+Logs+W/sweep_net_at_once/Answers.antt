use Rattle.std.proofs.Common.{◌≡◌, ◌<◌, length, Some, slice_get}
use Rattle.std.proofs.lemmas.Bool.{OnTrue_at}
use Rattle.gate_process.specs.Quiet.{IsQuiet, KnowsTo}
use Rattle.gate_process.specs.Step.{ProcessView}
use Rattle.cmb_kernel.specs.Running.{state_of, IsRunning}
use Rattle.cmb_kernel.proofs.AtRest.{rested, only_counted}
use Rattle.cmb_kernel.proofs.Running.{process_below, process_at, runs_at}
use Rattle.cmb_kernel.proofs.SweepLoops.{pin_catches_up}
use Rattle.cmb_kernel.proofs.kernel.at_once.Kernel+Logs+W.sweep_net_at_once.Given.{Over}
use Rattle.cmb_kernel.proofs.kernel.at_once.Kernel+Logs+W.sweep_net_at_once.Goals as goal
use Rattle.cmb_kernel.proofs.kernel.at_once.Kernel+Logs+W.sweep_net_at_once.Goals.{Then-is_at_rest}

pub is_at_rest-requires-clause-net : goal.is_at_rest-requires-clause-net
is_at_rest-requires-clause-net g c =
    process_below (c.self.invariant (rw (← c.self.view_is) at c.requires.running)) c.args.net (rw (← c.self.view_is) at c.requires.net)

pub is_at_rest-requires-clause-running : goal.is_at_rest-requires-clause-running
is_at_rest-requires-clause-running g c = λ process at.
    (runs_at (c.self.invariant (rw (← c.self.view_is) at c.requires.running)) c.args.net process at).runs

-- ---- a net at rest

running : (g : Over) (c : Then-is_at_rest g) →
    IsRunning c.self.inside.design.now c.self.inside.end c.self.inside.processes c.self.inside.fabric.sources c.self.inside.fabric.nets
    (state_of c.self.inside.processes c.self.inside.fabric.lists c.self.inside.counts)
running g c = c.self.invariant (rw (← c.self.view_is) at c.requires.running)

below : (g : Over) (c : Then-is_at_rest g) → c.args.net < length c.self.inside.design.now.circuit
below g c = rw (← c.self.view_is) at c.requires.net

-- its process
rester : (g : Over) (c : Then-is_at_rest g) → (process : ProcessView) × (slice_get c.self.inside.processes c.args.net ≡ Some process)
rester g c = process_at (running g c) c.args.net (below g c)

quiet : (g : Over) (c : Then-is_at_rest g) → IsQuiet ((rester g c).0).state
quiet g c = OnTrue_at c.if-is_at_rest.true c.is_at_rest.ensures.quiet (rester g c).0 (rester g c).1

knows : (g : Over) (c : Then-is_at_rest g) → KnowsTo c.args.tick ((rester g c).0).state
knows g c = OnTrue_at c.if-is_at_rest.true c.is_at_rest.ensures.known (rester g c).0 (rester g c).1

pub invariant_of-self : goal.invariant_of-self
invariant_of-self g c =
    let at = (goal.at.invariant_of-self g c).Then-is_at_rest in
    λ _. rw c.add_silent.ensures (rested (running g at) c.args.net (rester g at).0 (below g at) (rester g at).1 (quiet g at)).all

pub returns-then-is_at_rest-clause-ok : goal.returns-then-is_at_rest-clause-ok
returns-then-is_at_rest-clause-ok g c =
    let at = (goal.at.returns-then-is_at_rest-clause-ok g c).Then-is_at_rest in
    let counted = only_counted (running g at) c.args.net (rester g at).0 (below g at) (rester g at).1 (quiet g at) c.args.tick (knows g at) in
    rw (← c.self.view_is, c.add_silent.ensures)
    (λ i. record { circuit = c.self.inside.design.now.circuit; end = c.self.inside.end; failed = c.self.inside.failed; state = counted i })

pub returns-then-is_at_rest-clause-sound : goal.returns-then-is_at_rest-clause-sound
returns-then-is_at_rest-clause-sound g c =
    let at = (goal.at.returns-then-is_at_rest-clause-sound g c).Then-is_at_rest in
    rw c.add_silent.ensures (rested (running g at) c.args.net (rester g at).0 (below g at) (rester g at).1 (quiet g at)).all.sound

-- ---- the pins of another

pub loop-place-preserved : goal.loop-place-preserved
loop-place-preserved g c =
    pin_catches_up c.args.tick c.args.net c.loop-place.place c.args.self.now c.loop-place.self c.catch_up_at_once.new.self c.loop-place.invariant
    c.in_ok-catch_up_at_once.ensures.ok
