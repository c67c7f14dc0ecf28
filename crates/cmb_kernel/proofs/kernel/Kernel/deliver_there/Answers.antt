use Rattle.std.proofs.Common.{◌≡◌, ◌<◌, true, [], length, slice_index_or, sym, subst, ap, ◌∙◌}
use Rattle.std.specs.Option.{is_some}
use Rattle.cmb_events.specs.declared.event.Event.TheVariants.{Deliver}
use Rattle.cmb_kernel.specs.Running.{state_of}
use Rattle.cmb_kernel.specs.Step.{counted}
use Rattle.cmb_kernel.specs.Useful.{is_useful}
use Rattle.logic3.proofs.CallerLemmas.{OnErr_always}
use Rattle.cmb_kernel.proofs.Running.{process_below, process_at, runs_at, place_within, goes_on}
use Rattle.cmb_kernel.proofs.Applied.{IsApplied, few_before, none_waits, nothing_came, can_be_told, message_came}
use Rattle.cmb_kernel.proofs.kernel.Kernel.deliver_there.Given.{Over}
use Rattle.cmb_kernel.proofs.kernel.Kernel.deliver_there.Goals as goal
use Rattle.cmb_kernel.proofs.kernel.Kernel.deliver_there.Goals.{After-is_some, in-Some+in_ok-receive, in_default}

pub receive-requires-clause-net : goal.receive-requires-clause-net
receive-requires-clause-net g c =
    let all = c.self.invariant (rw (← c.self.view_is) at c.requires.running) in
    process_below all c.args.net (rw (← c.self.view_is) at c.requires.within)

pub receive-requires-clause-running : goal.receive-requires-clause-running
receive-requires-clause-running g c = λ process at.
    let all = c.self.invariant (rw (← c.self.view_is) at c.requires.running) in
    (runs_at all c.args.net process at).runs

pub receive-requires-clause-place : goal.receive-requires-clause-place
receive-requires-clause-place g c = λ process at.
    let all = c.self.invariant (rw (← c.self.view_is) at c.requires.running) in
    let exists = rw (← c.self.view_is) at c.requires.exists in
    let place = rw (← c.self.view_is) at c.requires.place in
    subst (λ n. n < length process.state.received) (sym place)
    (place_within all c.args.pin c.args.net process exists
    (rw (← c.self.view_is) at c.requires.net) at)

pub receive-requires-clause-can_hear : goal.receive-requires-clause-can_hear
receive-requires-clause-can_hear g c = λ process at.
    let all = c.self.invariant (rw (← c.self.view_is) at c.requires.running) in
    let exists = rw (← c.self.view_is) at c.requires.exists in
    let place = rw (← c.self.view_is) at c.requires.place in
    can_be_told all c.args.pin c.args.net _ c.in-Some.message _ process exists c.in-Some.ensures.front
    (rw (← c.self.view_is) at c.requires.net) place at

-- what the event makes of the parts
applied : (g : Over) (c : After-is_some g) →
    IsApplied c.match-message.self-inside.design.now c.match-message.self-inside.end c.match-message.self-inside.processes
    (g.F.Fabric.sources c.match-message.self-inside.fabric) (g.F.Fabric.nets c.match-message.self-inside.fabric)
    (g.F.Fabric.lists c.match-message.self-inside.fabric) (counted c.match-message.self-inside.counts [])
    (state_of c.self.inside.processes (g.F.Fabric.lists c.self.inside.fabric) c.self.inside.counts)
    (Deliver c.args.pin) (is_some c.match-message.message)
applied g c =
    let all = c.self.invariant (rw (← c.self.view_is) at c.requires.running) in
    let exists = rw (← c.self.view_is) at c.requires.exists in
    let hearer = process_at all c.args.net (rw (← c.self.view_is) at c.requires.within) in
    elim c.match-message.branch [
      | in-Some+in_ok-receive w ↦
          let place = rw (← c.self.view_is) at c.requires.place in
          rw (
            w.self-inside-is,
            w.message-is,
            c.take-message.ensures.lists,
            c.take-message.ensures.sources,
            c.take-message.ensures.nets,
            w.in_ok-receive.ensures.ok hearer.0 hearer.1,
          )
          (message_came all c.args.pin c.args.net _ w.in-Some.message _ hearer.0 exists w.in-Some.ensures.front
          (rw (← c.self.view_is) at c.requires.net) place hearer.1)
      | in_default w ↦
          rw (w.self-inside-is, w.message-is, w.in_default.is, c.take-message.ensures.lists, c.take-message.ensures.sources, c.take-message.ensures.nets)
          (nothing_came all c.args.pin exists
          (none_waits all c.args.pin exists
          (w.in_default.ensures.front ∙ ap (λ lists. slice_index_or lists c.args.pin []) c.take-message.ensures.lists)))
    ]

same_design : (g : Over) (c : After-is_some g) → c.match-message.self-inside.design.now.circuit ≡ c.self.inside.design.now.circuit
same_design g c = elim c.match-message.branch [ in-Some+in_ok-receive w ↦ rw w.self-inside-is | in_default w ↦ rw w.self-inside-is ]

same_end : (g : Over) (c : After-is_some g) → c.match-message.self-inside.end ≡ c.self.inside.end
same_end g c = elim c.match-message.branch [ in-Some+in_ok-receive w ↦ rw w.self-inside-is | in_default w ↦ rw w.self-inside-is ]

pub add_event-requires : goal.add_event-requires
add_event-requires g c =
    let all = c.self.invariant (rw (← c.self.view_is) at c.requires.running) in
    let few = few_before all in
    elim c.match-message.branch [
      | in-Some+in_ok-receive w ↦ rw w.self-inside-is few
      | in_default w ↦ rw w.self-inside-is few
    ]

pub invariant_of-self-2 : goal.invariant_of-self-2
invariant_of-self-2 g c = rw c.add_event.ensures (λ _. (applied g c).all)

-- a message came, so the event is useful
pub returns-in_err-receive-clause-memory : goal.returns-in_err-receive-clause-memory
returns-in_err-receive-clause-memory g c =
    let all = c.self.invariant (rw (← c.self.view_is) at c.requires.running) in
    let exists = rw (← c.self.view_is) at c.requires.exists in
    let place = rw (← c.self.view_is) at c.requires.place in
    let hearer = process_at all c.args.net (rw (← c.self.view_is) at c.requires.within) in
    let useful : is_useful c.args.self.now.state (Deliver c.args.pin) ≡ true = rw (← c.self.view_is) (sym (message_came all c.args.pin c.args.net _ c.in-Some.message _ hearer.0 exists c.in-Some.ensures.front
    (rw (← c.self.view_is) at c.requires.net) place hearer.1).useful) in
    OnErr_always _ useful

pub returns-clause-useful : goal.returns-clause-useful
returns-clause-useful g c =
    rw (← c.self.view_is) (c.is_some.ensures ∙ (applied g c).useful)

pub returns-clause-ok : goal.returns-clause-ok
returns-clause-ok g c =
    let runs = rw (← c.self.view_is) at c.requires.running in
    rw (c.add_event.ensures, ← c.self.view_is) (goes_on (same_design g c) (same_end g c) runs (applied g c).state)

pub returns-clause-sound : goal.returns-clause-sound
returns-clause-sound g c = rw c.add_event.ensures ((applied g c).all.sound)
