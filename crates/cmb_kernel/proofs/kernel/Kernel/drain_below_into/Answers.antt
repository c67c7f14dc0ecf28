use Rattle.std.proofs.Common.{◌≡◌, ◌<◌, ◌≤◌, ◌++◌, length, Some, slice_get, ap, sym, subst, ◌∙◌, arith, false}
use Rattle.logic3.specs.Wave.{changes_between}
use Rattle.design.specs.Equations.{value_of}
use Rattle.gate_process.specs.Step.{ProcessView, drained_changes}
use Rattle.cmb_kernel.specs.State.{KernelView, floor_at, least_frontier}
use Rattle.cmb_kernel.specs.Running.{state_of, IsRunning}
use Rattle.cmb_kernel.proofs.Refused.{not_failed}
use Rattle.cmb_kernel.proofs.Running.{process_below, process_at, runs_at}
use Rattle.cmb_kernel.proofs.Drains.{bounded, after, net_drained, taken_out, floor_after}
use Rattle.cmb_kernel.proofs.kernel.Kernel.drain_below_into.Given.{Over}
use Rattle.cmb_kernel.proofs.kernel.Kernel.drain_below_into.Goals as goal
use Rattle.cmb_kernel.proofs.kernel.Kernel.drain_below_into.Goals.{In_ok-check_running}

runs : (g : Over) (c : In_ok-check_running g) → c.args.self.now.failed ≡ false
runs g c = not_failed c.args.self.now c.in_ok-check_running.field-0 c.in_ok-check_running.ensures.answer

all : (g : Over) (c : In_ok-check_running g) → IsRunning c.self.inside.design.now c.self.inside.end c.self.inside.processes
    (g.F.Fabric.sources c.self.inside.fabric) (g.F.Fabric.nets c.self.inside.fabric)
    (state_of c.self.inside.processes (g.F.Fabric.lists c.self.inside.fabric) c.self.inside.counts)
all g c = c.self.invariant (ap (λ (k : KernelView). k.failed) c.self.view_is ∙ runs g c)

below : (g : Over) (c : In_ok-check_running g) → c.args.net < length c.self.inside.design.now.circuit
below g c = rw (← c.self.view_is) at c.requires.net

above : (g : Over) (c : In_ok-check_running g) →
    floor_at (state_of c.self.inside.processes (g.F.Fabric.lists c.self.inside.fabric) c.self.inside.counts) c.args.net ≤ c.args.bound
above g c = subst (λ (k : KernelView). floor_at k.state c.args.net ≤ c.args.bound) (sym c.self.view_is) (c.requires.above (runs g c))

known : (g : Over) (c : In_ok-check_running g) → c.args.bound ≤ least_frontier c.self.inside.end
    (state_of c.self.inside.processes (g.F.Fabric.lists c.self.inside.fabric) c.self.inside.counts)
known g c = subst (λ (k : KernelView). c.args.bound ≤ least_frontier k.end k.state) (sym c.self.view_is) (c.requires.known (runs g c))

-- the process that is drained
process : (g : Over) (c : In_ok-check_running g) → (process : ProcessView) × (slice_get c.self.inside.processes c.args.net ≡ Some process)
process g c = process_at (all g c) c.args.net (below g c)

pub drain_below_into-requires-clause-net : goal.drain_below_into-requires-clause-net
drain_below_into-requires-clause-net g c =
    let at = (goal.at.drain_below_into-requires-clause-net g c).In_ok-check_running in
    process_below (all g at) c.args.net (below g at)

pub drain_below_into-requires-clause-running : goal.drain_below_into-requires-clause-running
drain_below_into-requires-clause-running g c = λ process found.
    let at = (goal.at.drain_below_into-requires-clause-running g c).In_ok-check_running in
    (runs_at (all g at) c.args.net process found).runs

pub drain_below_into-requires-clause-known : goal.drain_below_into-requires-clause-known
drain_below_into-requires-clause-known g c = λ process found.
    let at = (goal.at.drain_below_into-requires-clause-known g c).In_ok-check_running in
    (bounded (all g at) c.args.net c.args.bound process (below g at) found (above g at) (known g at)).1

taken : (g : Over) (c : In_ok-check_running g) → drained_changes c.args.bound (process g c).0.state
    ≡ changes_between (value_of c.args.self.now.circuit c.args.net) (floor_at c.args.self.now.state c.args.net) c.args.bound
taken g c =
    taken_out (all g c) c.args.net c.args.bound (process g c).0 (below g c) (process g c).1 (above g c) (known g c)
    ∙ ap (λ (k : KernelView). changes_between (value_of k.circuit c.args.net) (floor_at k.state c.args.net) c.args.bound) c.self.view_is

pub returns-in_err-drain_below_into-clause-memory : goal.returns-in_err-drain_below_into-clause-memory
returns-in_err-drain_below_into-clause-memory g c = λ memory none.
    let at = (goal.at.returns-in_err-drain_below_into-clause-memory g c).In_ok-check_running in
    let some = c.in_err-drain_below_into.ensures.memory (process g at).0 (process g at).1 in
    let empty = ap length (taken g at ∙ none) in
    omega (arith, some, empty)

pub invariant_of-self-2 : goal.invariant_of-self-2
invariant_of-self-2 g c = λ _.
    let at = (goal.at.invariant_of-self-2 g c).In_ok-check_running in
    rw (c.in_ok-drain_below_into.ensures.ok (process g at).0 (process g at).1)
    (net_drained (all g at) c.args.net c.args.bound (process g at).0 (below g at) (process g at).1 (above g at) (known g at))

pub returns-clause-changes : goal.returns-clause-changes
returns-clause-changes g c =
    let at = (goal.at.returns-clause-changes g c).In_ok-check_running in
    c.in_ok-drain_below_into.ensures.changes (process g at).0 (process g at).1 ∙ ap (λ cs. c.args.changes.now.items ++ cs) (taken g at)

pub returns-clause-ok : goal.returns-clause-ok
returns-clause-ok g c =
    let at = (goal.at.returns-clause-ok g c).In_ok-check_running in
    rw (← c.self.view_is, c.in_ok-drain_below_into.ensures.ok (process g at).0 (process g at).1)
    (ap (λ s. record { circuit = c.self.inside.design.now.circuit; end = c.self.inside.end; failed = c.self.inside.failed; state = s })
    (after (all g at) c.args.net c.args.bound (process g at).0 (below g at) (process g at).1 (above g at) (known g at)))

pub returns-clause-floor : goal.returns-clause-floor
returns-clause-floor g c =
    let at = (goal.at.returns-clause-floor g c).In_ok-check_running in
    rw (c.in_ok-drain_below_into.ensures.ok (process g at).0 (process g at).1)
    (ap (λ s. floor_at s c.args.net)
    (after (all g at) c.args.net c.args.bound (process g at).0 (below g at) (process g at).1 (above g at) (known g at))
    ∙ floor_after (all g at) c.args.net c.args.bound (process g at).0 (below g at) (process g at).1 (above g at) (known g at))

pub returns-clause-sound : goal.returns-clause-sound
returns-clause-sound g c = λ _.
    let at = (goal.at.returns-clause-sound g c).In_ok-check_running in
    rw (c.in_ok-drain_below_into.ensures.ok (process g at).0 (process g at).1)
    (net_drained (all g at) c.args.net c.args.bound (process g at).0 (below g at) (process g at).1 (above g at) (known g at)).sound
