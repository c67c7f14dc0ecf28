use Rattle.std.proofs.Common.{◌≡◌, ◌-◌, ◌<◌, true, false, length, Some, slice_get, slice_set, slice_range, refl, ap, sym, subst, ◌∙◌, arith, rules}
use Rattle.std.specs.Option.{ForSome}
use Rattle.std.specs.Vec.{with_items}
use Rattle.std.proofs.lemmas.Option.{slice_get_read, get_or_from_slice_get, same_Some}
use Rattle.std.proofs.lemmas.List.{set-get_or}
use Rattle.logic3.proofs.CallerLemmas.{OnErr_always}
use Rattle.gate_process.specs.Outputs.{state_of, process_of, processes_of, AreStored}
use Rattle.gate_process.specs.Quiet.{IsQuiet, AreAtRest}
use Rattle.gate_process.specs.Step.{ProcessView, running, next_frontier, advanced, news}
use Rattle.gate_process.specs.Truth.{IsProcess}
use Rattle.gate_process.proofs.Quiet.{quiet_news, process_set, flag_set, process_knows, known_set}
use Rattle.gate_process.proofs.Stored.{put, Located, located, in_outputs, in_circuit, now_written, now_stored}
use Rattle.gate_process.proofs.processes.Processes.advance_into.Given.{Over}
use Rattle.gate_process.proofs.processes.Processes.advance_into.Goals as goal
use Rattle.gate_process.proofs.processes.Processes.advance_into.Goals.{Then-index, After-index_mut, After-advance_into}

pub pin_range-pins-requires : goal.pin_range-pins-requires
pin_range-pins-requires g c =
    in_circuit c.self.inside.design.now.circuit c.self.inside.outputs.items c.self.inside.received.items c.args.self.now c.args.net
    c.self.invariant.0 c.self.view_is c.requires.net

pub index_mut-requires : goal.index_mut-requires
index_mut-requires g c =
    omega (arith, in_outputs c.self.inside.outputs.items c.self.inside.received.items c.args.self.now c.args.net c.self.view_is c.requires.net)

output_at : (g : Over) (c : After-index_mut g) → slice_get c.self.inside.outputs.items c.args.net ≡ Some c.index_mut.result.now
output_at g c =
    slice_get_read c.self.inside.outputs.items (length c.self.inside.outputs.items) c.args.net c.index_mut.result.now refl
    (in_outputs c.self.inside.outputs.items c.self.inside.received.items c.args.self.now c.args.net c.self.view_is c.requires.net)
    c.index_mut.ensures.value

here : (g : Over) (c : After-index_mut g) → Located c.self.inside.design.now.circuit c.self.inside.outputs.items c.self.inside.received.items c.args.net
    c.pin_range-pins.result.start (c.pin_range-pins.result.end - c.pin_range-pins.result.start) c.as_mut_slice.result.now c.index_mut.result.now
here g c =
    located c.self.inside.design.now.circuit c.self.inside.outputs.items c.self.inside.received.items c.args.net c.pin_range-pins.result.start
    c.pin_range-pins.result.end c.as_mut_slice.result.now c.index_mut.result.now c.self.invariant.0 (output_at g c)
    c.pin_range-pins.ensures.start c.pin_range-pins.ensures.end c.as_mut_slice.ensures.value

-- the process of the net
abbrev process : (g : Over) → After-index_mut g → ProcessView
process g c =
    process_of c.index_mut.result.now (slice_range c.as_mut_slice.result.now c.pin_range-pins.result.start c.pin_range-pins.result.end)

stands : (g : Over) (c : After-index_mut g) → slice_get c.args.self.now c.args.net ≡ Some (process g c)
stands g c = ap (λ ps. slice_get ps c.args.net) (sym c.self.view_is) ∙ (here g c).stands

is : (g : Over) (c : After-index_mut g) (found : ProcessView) → slice_get c.args.self.now c.args.net ≡ Some found → process g c ≡ found
is g c found at = same_Some (process g c) found (sym (stands g c) ∙ at)

is_process : (g : Over) (c : After-index_mut g) → (process g c).failed ≡ false → IsProcess (process g c).state
is_process g c = c.self.invariant.0.processes c.args.net _ (here g c).stands

pub advance_into-requires-clause-process : goal.advance_into-requires-clause-process
advance_into-requires-clause-process g c =
    let at = (goal.at.advance_into-requires-clause-process g c).After-index_mut in
    is_process g at (c.requires.running _ (stands g at))

pub advance_into-requires-clause-running : goal.advance_into-requires-clause-running
advance_into-requires-clause-running g c = c.requires.running _ (stands g (goal.at.advance_into-requires-clause-running g c).After-index_mut)

-- the flag of a process that is passed over says that it is quiet
is_quiet : (g : Over) (c : Then-index g) (found : ProcessView) → slice_get c.args.self.now c.args.net ≡ Some found → IsQuiet found.state
is_quiet g c found at =
    let below : c.args.net < length (processes_of c.self.inside.outputs.items c.self.inside.received.items) =
    rw (← c.self.view_is) at c.requires.net in
    let flags = c.self.invariant.1.flagged.flags in
    let flag = slice_get_read c.self.inside.quiet.items (length c.self.inside.quiet.items) c.args.net c.index.result.now refl
    (omega (arith, flags, below)) c.index.ensures in
    c.self.invariant.1.flagged.stays c.args.net found (ap (λ ps. slice_get ps c.args.net) c.self.view_is ∙ at)
    (flag ∙ ap (λ b. Some b) c.if-index.true) (c.requires.running found at)

pub returns-then-index-clause-news : goal.returns-then-index-clause-news
returns-then-index-clause-news g c = λ found at.
    let there = (goal.at.returns-then-index-clause-news g c).Then-index in
    rw (quiet_news found.state (is_quiet g there found at)) (search rules)

pub returns-then-index-clause-ok : goal.returns-then-index-clause-ok
returns-then-index-clause-ok g c = λ found at.
    let there = (goal.at.returns-then-index-clause-ok g c).Then-index in
    let runs = c.requires.running found at in
    let same : found ≡ running (advanced found.state) = λ i. record { failed = runs i; state = sym (is_quiet g there found at) i } in
    sym (set-get_or c.args.self.now c.args.net found)
    ∙ ap (slice_set c.args.self.now c.args.net) (get_or_from_slice_get c.args.self.now c.args.net found found at ∙ same)

-- what the lists make once the output and the pins are written
written_now : (g : Over) (c : After-advance_into g) → Located c.self.inside.design.now.circuit c.self.inside.outputs.items c.self.inside.received.items c.args.net c.pin_range-pins.result.start
    (c.pin_range-pins.result.end - c.pin_range-pins.result.start) c.as_mut_slice.result.now c.index_mut.result.now →
    processes_of (slice_set c.self.inside.outputs.items c.args.net c.advance_into.new.self)
    (with_items c.self.inside.received (put c.pin_range-pins.result.start (c.pin_range-pins.result.end - c.pin_range-pins.result.start) c.as_mut_slice.result.now c.advance_into.new.received)).items
    ≡ slice_set (processes_of c.self.inside.outputs.items c.self.inside.received.items) c.args.net (process_of c.advance_into.new.self c.advance_into.new.received)
written_now g c located_here =
    now_written c.self.inside.design.now.circuit c.self.inside.outputs.items c.self.inside.received c.args.net c.pin_range-pins.result.start
    (c.pin_range-pins.result.end - c.pin_range-pins.result.start) c.as_mut_slice.result.now c.index_mut.result.now located_here c.as_mut_slice.ensures.len
    c.advance_into.new.self c.advance_into.new.received c.advance_into.ensures.net c.advance_into.ensures.pins

stored_now : (g : Over) (c : After-advance_into g) → Located c.self.inside.design.now.circuit c.self.inside.outputs.items c.self.inside.received.items c.args.net c.pin_range-pins.result.start
    (c.pin_range-pins.result.end - c.pin_range-pins.result.start) c.as_mut_slice.result.now c.index_mut.result.now →
    (c.advance_into.new.self.failed ≡ false → IsProcess (state_of c.advance_into.new.self c.advance_into.new.received)) →
    AreStored c.self.inside.design.now.circuit (slice_set c.self.inside.outputs.items c.args.net c.advance_into.new.self)
    (with_items c.self.inside.received (put c.pin_range-pins.result.start (c.pin_range-pins.result.end - c.pin_range-pins.result.start) c.as_mut_slice.result.now c.advance_into.new.received)).items
stored_now g c located_here ok =
    now_stored c.self.inside.design.now.circuit c.self.inside.outputs.items c.self.inside.received c.args.net c.pin_range-pins.result.start
    (c.pin_range-pins.result.end - c.pin_range-pins.result.start) c.as_mut_slice.result.now c.index_mut.result.now located_here c.as_mut_slice.ensures.len
    c.advance_into.new.self c.advance_into.new.received c.advance_into.ensures.net c.advance_into.ensures.pins ok

pub invariant_of-self : goal.invariant_of-self
invariant_of-self g c =
    let at = (goal.at.invariant_of-self g c).After-index_mut in
    let after = (goal.at.invariant_of-self g c).After-advance_into in
    let failed = c.in_err-advance_into.ensures.err in
    let new = process_of c.advance_into.new.self c.advance_into.new.received in (
      stored_now g after (here g at) (λ runs. cc),
      subst (λ ps. AreAtRest ps c.self.inside.quiet.items c.self.inside.heard.items) (sym (written_now g after (here g at))) (record {
        flagged = process_set (processes_of c.self.inside.outputs.items c.self.inside.received.items) c.self.inside.quiet.items c.self.invariant.1.flagged c.args.net new (λ flag runs. cc);
        pins = process_knows (processes_of c.self.inside.outputs.items c.self.inside.received.items) c.self.inside.quiet.items c.self.inside.heard.items c.self.invariant.1.pins c.args.net new
            (λ tick flag to runs. cc);
      }),
    )

pub returns-in_err-advance_into-clause-err : goal.returns-in_err-advance_into-clause-err
returns-in_err-advance_into-clause-err g c =
    let at = (goal.at.returns-in_err-advance_into-clause-err g c).After-index_mut in
    let after = (goal.at.returns-in_err-advance_into-clause-err g c).After-advance_into in
    let failed : (p : ProcessView) × (p.failed ≡ true) × (processes_of (slice_set c.self.inside.outputs.items c.args.net c.advance_into.new.self)
    (with_items c.self.inside.received (put c.pin_range-pins.result.start (c.pin_range-pins.result.end - c.pin_range-pins.result.start) c.as_mut_slice.result.now c.advance_into.new.received)).items ≡ slice_set c.args.self.now c.args.net p) = (
      process_of c.advance_into.new.self c.advance_into.new.received,
      c.in_err-advance_into.ensures.err,
      written_now g after (here g at) ∙ ap (λ ps. slice_set ps c.args.net (process_of c.advance_into.new.self c.advance_into.new.received)) c.self.view_is,
    ) in
    OnErr_always _ failed

pub returns-in_err-advance_into-clause-memory : goal.returns-in_err-advance_into-clause-memory
returns-in_err-advance_into-clause-memory g c =
    let at = (goal.at.returns-in_err-advance_into-clause-memory g c).After-index_mut in
    let farther : ForSome (slice_get c.args.self.now c.args.net) (λ (p : ProcessView). p.state.known.frontier < next_frontier p.state) =
    λ found there. subst (λ (p : ProcessView). p.state.known.frontier < next_frontier p.state) (is g at found there)
    c.in_err-advance_into.ensures.memory in
    OnErr_always _ farther

pub invariant_of-self-2 : goal.invariant_of-self-2
invariant_of-self-2 g c =
    let at = (goal.at.invariant_of-self-2 g c).After-index_mut in
    let after = (goal.at.invariant_of-self-2 g c).After-advance_into in
    let new = process_of c.advance_into.new.self c.advance_into.new.received in (
      stored_now g after (here g at) (λ runs. c.in_ok-advance_into.ensures.process),
      subst (λ ps. AreAtRest ps (slice_set c.self.inside.quiet.items c.args.net true)
          (slice_set c.self.inside.heard.items c.args.net c.least_received.result)) (sym (written_now g after (here g at))) (record {
            flagged = flag_set (processes_of c.self.inside.outputs.items c.self.inside.received.items) c.self.inside.quiet.items c.self.invariant.1.flagged c.args.net new true
                (λ raised runs. c.in_ok-advance_into.ensures.quiet);
            pins = known_set (processes_of c.self.inside.outputs.items c.self.inside.received.items) c.self.inside.quiet.items c.self.inside.heard.items c.self.invariant.1.pins c.args.net new true
                c.least_received.result (λ runs. c.least_received.ensures);
          }),
    )

pub returns-clause-news : goal.returns-clause-news
returns-clause-news g c = λ found there.
    let at = (goal.at.returns-clause-news g c).After-index_mut in
    c.in_ok-advance_into.ensures.news ∙ ap (λ (p : ProcessView). news p.state) (is g at found there)

pub returns-clause-ok : goal.returns-clause-ok
returns-clause-ok g c = λ found there.
    let at = (goal.at.returns-clause-ok g c).After-index_mut in
    let after = (goal.at.returns-clause-ok g c).After-advance_into in
    let new = c.in_ok-advance_into.ensures.state ∙ ap (λ (p : ProcessView). running (advanced p.state)) (is g at found there) in
    written_now g after (here g at) ∙ (λ i. slice_set (c.self.view_is i) c.args.net (new i))
