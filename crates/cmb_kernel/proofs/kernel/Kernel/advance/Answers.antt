use Rattle.std.proofs.Common.{◌≡◌, true, ◌==◌, not, length, Some, slice_get, refl, ap, ◌∙◌, sym, subst, ◌+◌, ◌<◌}
use Rattle.cmb_events.specs.declared.event.Event.TheVariants.{Advance}
use Rattle.logic3.proofs.CallerLemmas.{OnErr_always}
use Rattle.gate_process.specs.Step.{ProcessView}
use Rattle.cmb_kernel.proofs.Running.{process_below, process_at, runs_at, goes_on}
use Rattle.cmb_kernel.proofs.Applied.{IsApplied, few_messages, farther_useful, telling_useful, net_advanced}
use Rattle.cmb_kernel.specs.Running.{state_of, IsRunning}
use Rattle.cmb_kernel.specs.Useful.{is_useful}
use Rattle.cmb_kernel.proofs.kernel.Kernel.advance.Given.{Over}
use Rattle.cmb_kernel.proofs.kernel.Kernel.advance.Goals as goal
use Rattle.cmb_kernel.proofs.kernel.Kernel.advance.Goals.{After-advance_into, After-add_event}

-- the kernel ran before
all : (g : Over) (c : After-advance_into g) → IsRunning c.self.inside.design.now c.self.inside.end c.self.inside.processes
    (g.F.Fabric.sources c.self.inside.fabric) (g.F.Fabric.nets c.self.inside.fabric)
    (state_of c.self.inside.processes (g.F.Fabric.lists c.self.inside.fabric) c.self.inside.counts)
all g c = c.self.invariant (rw (← c.self.view_is) at c.requires.running)

below : (g : Over) (c : After-advance_into g) → c.args.net < length c.self.inside.design.now.circuit
below g c = rw (← c.self.view_is) at c.requires.exists

-- the process that advances
process : (g : Over) (c : After-advance_into g) → (process : ProcessView) × (slice_get c.self.inside.processes c.args.net ≡ Some process)
process g c = process_at (all g c) c.args.net (below g c)

pub advance_into-requires-clause-net : goal.advance_into-requires-clause-net
advance_into-requires-clause-net g c =
    let all = c.self.invariant (rw (← c.self.view_is) at c.requires.running) in
    process_below all c.args.net (rw (← c.self.view_is) at c.requires.exists)

pub advance_into-requires-clause-running : goal.advance_into-requires-clause-running
advance_into-requires-clause-running g c = λ process at.
    let all = c.self.invariant (rw (← c.self.view_is) at c.requires.running) in
    (runs_at all c.args.net process at).runs

pub add_event-requires : goal.add_event-requires
add_event-requires g c =
    let at = (goal.at.add_event-requires g c).After-advance_into in
    let mover = process g at in
    subst (λ (ms : _). c.self.inside.counts.changes + c.self.inside.counts.nulls + length ms < 18_446_744_073_709_551_616)
    (sym (c.as_slice-2.ensures.value ∙ c.in_ok-advance_into.ensures.news mover.0 mover.1))
    (few_messages (all g at) c.args.net mover.0 mover.1)

-- what the event makes of the parts
applied : (g : Over) (c : After-add_event g) →
    IsApplied c.self.inside.design.now c.self.inside.end c.advance_into.new.self
    (g.F.Fabric.sources c.send_all.new.self) (g.F.Fabric.nets c.send_all.new.self) (g.F.Fabric.lists c.send_all.new.self)
    c.add_event.new.self (state_of c.self.inside.processes (g.F.Fabric.lists c.self.inside.fabric) c.self.inside.counts)
    (Advance c.args.net) (not (length c.advance_into.new.messages.items == 0))
applied g c =
    let all = c.self.invariant (rw (← c.self.view_is) at c.requires.running) in
    let below = rw (← c.self.view_is) at c.requires.exists in
    let mover = process_at all c.args.net below in
    rw (
      c.add_event.ensures,
      c.in_ok-send_all.ensures.ok,
      c.in_ok-send_all.ensures.sources,
      c.in_ok-send_all.ensures.nets,
      c.as_slice.ensures.value,
      c.as_slice-2.ensures.value,
      c.in_ok-advance_into.ensures.ok mover.0 mover.1,
      c.in_ok-advance_into.ensures.news mover.0 mover.1,
    )
    (net_advanced all c.args.net mover.0 below mover.1)

pub invariant_of-self-2 : goal.invariant_of-self-2
invariant_of-self-2 g c = λ _. (applied g (goal.at.invariant_of-self-2 g c).After-add_event).all

-- memory is taken only where the frontier rises, and where there is something to tell
pub returns-in_err-advance_into-clause-memory : goal.returns-in_err-advance_into-clause-memory
returns-in_err-advance_into-clause-memory g c =
    let at = (goal.at.returns-in_err-advance_into-clause-memory g c).After-advance_into in
    let mover = process g at in
    let useful : is_useful c.args.self.now.state (Advance c.args.net) ≡ true = rw (← c.self.view_is)
    (farther_useful (all g at) c.args.net mover.0 mover.1 (c.in_err-advance_into.ensures.memory mover.0 mover.1)) in
    OnErr_always _ useful

pub returns-in_err-send_all-clause-memory : goal.returns-in_err-send_all-clause-memory
returns-in_err-send_all-clause-memory g c =
    let at = (goal.at.returns-in_err-send_all-clause-memory g c).After-advance_into in
    let mover = process g at in
    let useful : is_useful c.args.self.now.state (Advance c.args.net) ≡ true = rw (← c.self.view_is)
    (telling_useful (all g at) c.args.net mover.0 (below g at) mover.1
    (subst (λ (ms : _). 0 < length ms) (c.as_slice.ensures.value ∙ c.in_ok-advance_into.ensures.news mover.0 mover.1) c.in_err-send_all.ensures.memory)) in
    OnErr_always _ useful

pub returns-clause-useful : goal.returns-clause-useful
returns-clause-useful g c =
    rw (← c.self.view_is)
    (ap not (c.is_empty.ensures ∙ ap (λ n. n == 0) (sym c.as_slice-2.ensures.len ∙ ap length c.as_slice-2.ensures.value))
    ∙ (applied g (goal.at.returns-clause-useful g c).After-add_event).useful)

pub returns-clause-ok : goal.returns-clause-ok
returns-clause-ok g c =
    let runs = rw (← c.self.view_is) at c.requires.running in
    rw (← c.self.view_is) (goes_on refl refl runs (applied g (goal.at.returns-clause-ok g c).After-add_event).state)

pub returns-clause-sound : goal.returns-clause-sound
returns-clause-sound g c = (applied g (goal.at.returns-clause-sound g c).After-add_event).all.sound
