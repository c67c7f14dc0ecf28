use Rattle.std.proofs.Common.{◌≡◌, ℕ, ◌<◌, length, List, [], Some, slice_get, slice_set, slice_index_or, refl, sym, subst, ap, ◌∙◌}
use Rattle.std.specs.Option.{ForSome}
use Rattle.gate_process.specs.Step.{ProcessView, running as running_as, heard_below, wanted_at, wanted_messages}
use Rattle.gate_process.specs.Truth.{CanHearAll}
use Rattle.cmb_kernel.specs.Running.{state_of, IsRunning}
use Rattle.cmb_kernel.proofs.AtOnce.{can_take, few_taken, taken_at_once, all_taken}
use Rattle.cmb_kernel.proofs.Running.{process_at, runs_at, place_within, goes_on}
use Rattle.cmb_kernel.proofs.kernel.at_once.Kernel+Logs+W.take_below.Given.{Over}
use Rattle.cmb_kernel.proofs.kernel.at_once.Kernel+Logs+W.take_below.Goals as goal
use Rattle.cmb_kernel.proofs.kernel.at_once.Kernel+Logs+W.take_below.Goals.{After-waiting_messages-waiting}

-- the parts run before
running : (g : Over) (c : After-waiting_messages-waiting g) →
    IsRunning c.self.inside.design.now c.self.inside.end c.self.inside.processes c.self.inside.fabric.sources c.self.inside.fabric.nets
    (state_of c.self.inside.processes c.self.inside.fabric.lists c.self.inside.counts)
running g c = c.self.invariant (rw (← c.self.view_is) at c.requires.running)

pub receive_below-requires-clause-running : goal.receive_below-requires-clause-running
receive_below-requires-clause-running g c = λ process at.
    (runs_at (running g (goal.at.receive_below-requires-clause-running g c).After-waiting_messages-waiting) c.args.net process at).runs

pub receive_below-requires-clause-place : goal.receive_below-requires-clause-place
receive_below-requires-clause-place g c = λ process at.
    let all = running g (goal.at.receive_below-requires-clause-place g c).After-waiting_messages-waiting in
    let exists = rw (← c.self.view_is) at c.requires.exists in
    let place = rw (← c.self.view_is) at c.requires.place in
    subst (λ n. n < length process.state.received) (sym place)
    (place_within all c.args.pin c.args.net process exists (rw (← c.self.view_is) at c.requires.net) at)

pub receive_below-requires-clause-can_hear : goal.receive_below-requires-clause-can_hear
receive_below-requires-clause-can_hear g c = λ process at.
    let all = running g (goal.at.receive_below-requires-clause-can_hear g c).After-waiting_messages-waiting in
    subst (λ waiting. CanHearAll process.state c.args.place (wanted_messages c.args.tick process.state c.args.place waiting))
    (sym c.waiting_messages-waiting.ensures)
    (can_take all c.args.pin c.args.net c.args.place (rw (← c.self.view_is) at c.requires.exists) (rw (← c.self.view_is) at c.requires.net)
    (rw (← c.self.view_is) at c.requires.place) process at c.args.tick)

-- the process that receives
hearer : (g : Over) (c : After-waiting_messages-waiting g) → (process : ProcessView) × (slice_get c.self.inside.processes c.args.net ≡ Some process)
hearer g c = process_at (running g c) c.args.net (rw (← c.self.view_is) at c.requires.within)

-- how many messages it takes of those that wait
counted : (g : Over) (c : After-waiting_messages-waiting g) (count : ℕ) →
    ForSome (slice_get c.self.inside.processes c.args.net) (λ (process : ProcessView).
    count ≡ wanted_at c.args.tick process.state c.args.place c.waiting_messages-waiting.result) →
    count ≡ wanted_at c.args.tick ((hearer g c).0).state c.args.place (slice_index_or c.self.inside.fabric.lists c.args.pin [])
counted g c count is =
    is (hearer g c).0 (hearer g c).1
    ∙ ap (wanted_at c.args.tick ((hearer g c).0).state c.args.place) c.waiting_messages-waiting.ensures

-- the processes after it
heard : (g : Over) (c : After-waiting_messages-waiting g) (processes : List ProcessView) →
    ForSome (slice_get c.self.inside.processes c.args.net) (λ (process : ProcessView).
    processes ≡ slice_set c.self.inside.processes c.args.net
    (running_as (heard_below c.args.tick c.args.place c.waiting_messages-waiting.result process.state))) →
    processes ≡ slice_set c.self.inside.processes c.args.net
    (running_as (heard_below c.args.tick c.args.place (slice_index_or c.self.inside.fabric.lists c.args.pin []) ((hearer g c).0).state))
heard g c processes is =
    is (hearer g c).0 (hearer g c).1
    ∙ ap (λ waiting. slice_set c.self.inside.processes c.args.net (running_as (heard_below c.args.tick c.args.place waiting ((hearer g c).0).state)))
    c.waiting_messages-waiting.ensures

pub take_many-requires-clause-there : goal.take_many-requires-clause-there
take_many-requires-clause-there g c =
    let at = (goal.at.take_many-requires-clause-there g c).After-waiting_messages-waiting in
    few_taken (running g at) c.args.pin c.args.net c.args.place (rw (← c.self.view_is) at c.requires.exists) (rw (← c.self.view_is) at c.requires.net)
    (rw (← c.self.view_is) at c.requires.place) (hearer g at).0 (hearer g at).1 c.args.tick c.in_ok-count.count
    (counted g at c.in_ok-count.count c.in_ok-count.ensures.count)

pub invariant_of-self-2 : goal.invariant_of-self-2
invariant_of-self-2 g c =
    let at = (goal.at.invariant_of-self-2 g c).After-waiting_messages-waiting in
    rw (
      heard g at c.receive_below.new.self c.in_ok-count.ensures.ok,
      c.take_many.ensures.lists,
      c.take_many.ensures.sources,
      c.take_many.ensures.nets,
      c.add_silent.ensures,
    )
    (λ runs. all_taken (running g at) c.args.pin c.args.net c.args.place (rw (← c.self.view_is) at c.requires.exists) (rw (← c.self.view_is) at c.requires.net)
    (rw (← c.self.view_is) at c.requires.place) (hearer g at).0 (hearer g at).1 c.args.tick c.in_ok-count.count
    (counted g at c.in_ok-count.count c.in_ok-count.ensures.count))

pub returns-clause-ok : goal.returns-clause-ok
returns-clause-ok g c =
    let at = (goal.at.returns-clause-ok g c).After-waiting_messages-waiting in
    let runs = rw (← c.self.view_is) at c.requires.running in
    rw (
      ← c.self.view_is,
      heard g at c.receive_below.new.self c.in_ok-count.ensures.ok,
      c.take_many.ensures.lists,
      c.add_silent.ensures,
    )
    (goes_on refl refl runs
    (taken_at_once (running g at) c.args.pin c.args.net c.args.place (rw (← c.self.view_is) at c.requires.exists) (rw (← c.self.view_is) at c.requires.net)
    (rw (← c.self.view_is) at c.requires.place) (hearer g at).0 (hearer g at).1 c.args.tick c.in_ok-count.count
    (counted g at c.in_ok-count.count c.in_ok-count.ensures.count)))

pub returns-clause-sound : goal.returns-clause-sound
returns-clause-sound g c =
    let at = (goal.at.returns-clause-sound g c).After-waiting_messages-waiting in
    rw (
      heard g at c.receive_below.new.self c.in_ok-count.ensures.ok,
      c.take_many.ensures.lists,
      c.add_silent.ensures,
    )
    ((all_taken (running g at) c.args.pin c.args.net c.args.place (rw (← c.self.view_is) at c.requires.exists) (rw (← c.self.view_is) at c.requires.net)
    (rw (← c.self.view_is) at c.requires.place) (hearer g at).0 (hearer g at).1 c.args.tick c.in_ok-count.count
    (counted g at c.in_ok-count.count c.in_ok-count.ensures.count)).sound)
