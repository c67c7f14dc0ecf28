use Rattle.std.proofs.Common.{◌≡◌, ◌<◌, ◌≤◌, ◌++◌, false, length, Some, slice_get, slice_set, refl, ap, sym, subst, ◌∙◌, arith}
use Rattle.std.specs.Option.{ForSome}
use Rattle.std.proofs.lemmas.Option.{slice_get_read, same_Some}
use Rattle.logic3.proofs.CallerLemmas.{OnErr_always}
use Rattle.gate_process.specs.Outputs.{OutputView, state_of, process_of, processes_of, AreStored}
use Rattle.gate_process.specs.Quiet.{IsQuiet, AreAtRest}
use Rattle.gate_process.specs.Step.{ProcessView, running, drained, drained_changes}
use Rattle.gate_process.specs.Truth.{IsProcess}
use Rattle.gate_process.proofs.Drained.{drained_is_process}
use Rattle.gate_process.proofs.Quiet.{quiet_drained, process_set, process_knows}
use Rattle.gate_process.proofs.Reach.{next-end}
use Rattle.gate_process.proofs.Stored.{pins_of, found, same_set, in_outputs, output_written, output_stored}
use Rattle.gate_process.proofs.processes.Processes.drain_below_into.Given.{Over}
use Rattle.gate_process.proofs.processes.Processes.drain_below_into.Goals as goal
use Rattle.gate_process.proofs.processes.Processes.drain_below_into.Goals.{After-index_mut, In_ok-drain_below_into}

pub index_mut-requires : goal.index_mut-requires
index_mut-requires g c =
    omega (arith, in_outputs c.self.inside.outputs.items c.self.inside.received.items c.args.self.now c.args.net c.self.view_is c.requires.net)

output_at : (g : Over) (c : After-index_mut g) → slice_get c.self.inside.outputs.items c.args.net ≡ Some c.index_mut.result.now
output_at g c =
    slice_get_read c.self.inside.outputs.items (length c.self.inside.outputs.items) c.args.net c.index_mut.result.now refl
    (in_outputs c.self.inside.outputs.items c.self.inside.received.items c.args.self.now c.args.net c.self.view_is c.requires.net)
    c.index_mut.ensures.value

-- the process of the net
abbrev process : (g : Over) → After-index_mut g → ProcessView
process g c =
    process_of c.index_mut.result.now (pins_of c.self.inside.design.now.circuit c.self.inside.outputs.items c.self.inside.received.items
    c.self.invariant.0 c.args.net c.index_mut.result.now (output_at g c))

stored_there : (g : Over) (c : After-index_mut g) → slice_get (processes_of c.self.inside.outputs.items c.self.inside.received.items) c.args.net ≡ Some (process g c)
stored_there g c =
    found c.self.inside.design.now.circuit c.self.inside.outputs.items c.self.inside.received.items c.self.invariant.0 c.args.net
    c.index_mut.result.now (output_at g c)

stands : (g : Over) (c : After-index_mut g) → slice_get c.args.self.now c.args.net ≡ Some (process g c)
stands g c = ap (λ ps. slice_get ps c.args.net) (sym c.self.view_is) ∙ stored_there g c

is : (g : Over) (c : After-index_mut g) (other : ProcessView) → slice_get c.args.self.now c.args.net ≡ Some other → process g c ≡ other
is g c other at = same_Some (process g c) other (sym (stands g c) ∙ at)

runs : (g : Over) (c : After-index_mut g) → (process g c).failed ≡ false
runs g c = c.requires.running (process g c) (stands g c)

is_process : (g : Over) (c : After-index_mut g) → IsProcess (process g c).state
is_process g c = c.self.invariant.0.processes c.args.net (process g c) (stored_there g c) (runs g c)

within : (g : Over) (c : After-index_mut g) → c.args.bound ≤ (process g c).state.known.frontier
within g c = c.requires.known (process g c) (stands g c)

pub drain_below_into-requires-clause-end : goal.drain_below_into-requires-clause-end
drain_below_into-requires-clause-end g c =
    let at = (goal.at.drain_below_into-requires-clause-end g c).After-index_mut in
    let ok = is_process g at in
    omega (arith, ok.ahead, next-end (process g at).state, ok.end)

pub drain_below_into-requires-clause-floor : goal.drain_below_into-requires-clause-floor
drain_below_into-requires-clause-floor g c = (is_process g (goal.at.drain_below_into-requires-clause-floor g c).After-index_mut).floor

pub drain_below_into-requires-clause-known : goal.drain_below_into-requires-clause-known
drain_below_into-requires-clause-known g c = (is_process g (goal.at.drain_below_into-requires-clause-known g c).After-index_mut).known

pub drain_below_into-requires-clause-within : goal.drain_below_into-requires-clause-within
drain_below_into-requires-clause-within g c = within g (goal.at.drain_below_into-requires-clause-within g c).After-index_mut

pub invariant_of-self : goal.invariant_of-self
invariant_of-self g c =
    let at = (goal.at.invariant_of-self g c).After-index_mut in
    let same = ap (slice_set c.self.inside.outputs.items c.args.net) c.in_err-drain_below_into.ensures.err
    ∙ same_set c.self.inside.outputs.items c.args.net c.index_mut.result.now (output_at g at) in
    subst (λ outputs. AreStored c.self.inside.design.now.circuit outputs c.self.inside.received.items
    × AreAtRest (processes_of outputs c.self.inside.received.items) c.self.inside.quiet.items c.self.inside.heard.items) (sym same) c.self.invariant

-- what the lists make once it is drained
drained_now : (g : Over) (c : In_ok-drain_below_into g) (at : slice_get c.self.inside.outputs.items c.args.net ≡ Some c.index_mut.result.now) →
    processes_of (slice_set c.self.inside.outputs.items c.args.net c.drain_below_into.new.self) c.self.inside.received.items
    ≡ slice_set (processes_of c.self.inside.outputs.items c.self.inside.received.items) c.args.net (process_of c.drain_below_into.new.self
    (pins_of c.self.inside.design.now.circuit c.self.inside.outputs.items c.self.inside.received.items c.self.invariant.0 c.args.net c.index_mut.result.now at))
drained_now g c at =
    output_written c.self.inside.design.now.circuit c.self.inside.outputs.items c.self.inside.received.items c.self.invariant.0 c.args.net c.index_mut.result.now at
    c.drain_below_into.new.self (ap (λ (o : OutputView). o.net) c.in_ok-drain_below_into.ensures.ok)

pub invariant_of-self-2 : goal.invariant_of-self-2
invariant_of-self-2 g c =
    let at = (goal.at.invariant_of-self-2 g c).After-index_mut in
    let here = (goal.at.invariant_of-self-2 g c).In_ok-drain_below_into in
    let old = process g at in
    let ok = c.in_ok-drain_below_into.ensures.ok in
    let keeps = drained_is_process old.state c.args.bound (is_process g at) (within g at) in
    let new = process_of c.drain_below_into.new.self old.state.received in (
      output_stored c.self.inside.design.now.circuit c.self.inside.outputs.items c.self.inside.received.items c.self.invariant.0 c.args.net c.index_mut.result.now (output_at g at) c.drain_below_into.new.self (ap (λ (o : OutputView). o.net) ok)
          (λ running. subst (λ o. IsProcess (state_of o old.state.received)) (sym ok) keeps),
      subst (λ ps. AreAtRest ps c.self.inside.quiet.items c.self.inside.heard.items) (sym (drained_now g here (output_at g at))) (record {
        flagged = process_set (processes_of c.self.inside.outputs.items c.self.inside.received.items) c.self.inside.quiet.items c.self.invariant.1.flagged c.args.net new (λ flag running.
            subst (λ o. IsQuiet (state_of o old.state.received)) (sym ok) (quiet_drained old.state c.args.bound keeps
            (c.self.invariant.1.flagged.stays c.args.net old (stored_there g at) flag (runs g at))));
        pins = process_knows (processes_of c.self.inside.outputs.items c.self.inside.received.items) c.self.inside.quiet.items c.self.inside.heard.items c.self.invariant.1.pins c.args.net new
            (λ tick flag to running. c.self.invariant.1.pins.knows c.args.net old tick (stored_there g at) flag to (runs g at));
      }),
    )

pub returns-in_err-drain_below_into-clause-memory : goal.returns-in_err-drain_below_into-clause-memory
returns-in_err-drain_below_into-clause-memory g c =
    let at = (goal.at.returns-in_err-drain_below_into-clause-memory g c).After-index_mut in
    let some : ForSome (slice_get c.args.self.now c.args.net) (λ (p : ProcessView). 0 < length (drained_changes c.args.bound p.state)) =
    λ other there. subst (λ (p : ProcessView). 0 < length (drained_changes c.args.bound p.state)) (is g at other there)
    c.in_err-drain_below_into.ensures.memory in
    OnErr_always _ some

pub returns-clause-changes : goal.returns-clause-changes
returns-clause-changes g c = λ other there.
    let at = (goal.at.returns-clause-changes g c).After-index_mut in
    c.in_ok-drain_below_into.ensures.changes
    ∙ ap (λ (p : ProcessView). c.args.changes.now.items ++ drained_changes c.args.bound p.state) (is g at other there)

pub returns-clause-ok : goal.returns-clause-ok
returns-clause-ok g c = λ other there.
    let at = (goal.at.returns-clause-ok g c).After-index_mut in
    let here = (goal.at.returns-clause-ok g c).In_ok-drain_below_into in
    let old = process g at in
    let new : process_of c.drain_below_into.new.self old.state.received ≡ running (drained c.args.bound other.state) =
    ap (λ o. process_of o old.state.received) c.in_ok-drain_below_into.ensures.ok
    ∙ (λ i. record { failed = runs g at i; state = drained c.args.bound old.state })
    ∙ ap (λ (p : ProcessView). running (drained c.args.bound p.state)) (is g at other there) in
    drained_now g here (output_at g at) ∙ (λ i. slice_set (c.self.view_is i) c.args.net (new i))
