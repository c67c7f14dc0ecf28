use Rattle.std.proofs.Common.{◌≡◌, ◌-◌, true, false, length, Some, slice_get, slice_set, slice_range, take, refl, ap, sym, subst, ◌∙◌, arith}
use Rattle.std.specs.Option.{ForSome}
use Rattle.std.specs.List.{list_any}
use Rattle.std.specs.Vec.{with_items}
use Rattle.std.proofs.lemmas.Option.{slice_get_read, same_Some}
use Rattle.logic3.proofs.CallerLemmas.{OnErr_always}
use Rattle.cmb_channels.specs.Kinds.{is_change}
use Rattle.gate_process.specs.Outputs.{state_of, process_of, processes_of, AreStored}
use Rattle.gate_process.specs.Quiet.{AreAtRest}
use Rattle.gate_process.specs.Step.{ProcessView, running, heard_all, heard_below, wanted_at, wanted_messages}
use Rattle.gate_process.specs.Truth.{IsProcess}
use Rattle.gate_process.proofs.Quiet.{process_set, flag_set, process_knows, none_known}
use Rattle.gate_process.proofs.Stored.{put, Located, located, in_outputs, in_circuit, same_set, now_written, now_stored}
use Rattle.gate_process.proofs.processes.Processes.receive_below.Given.{Over}
use Rattle.gate_process.proofs.processes.Processes.receive_below.Goals as goal
use Rattle.gate_process.proofs.processes.Processes.receive_below.Goals.{After-index_mut-output, After-receive_below}

pub pin_range-pins-requires : goal.pin_range-pins-requires
pin_range-pins-requires g c =
    in_circuit c.self.inside.design.now.circuit c.self.inside.outputs.items c.self.inside.received.items c.args.self.now c.args.net
    c.self.invariant.0 c.self.view_is c.requires.net

pub index_mut-output-requires : goal.index_mut-output-requires
index_mut-output-requires g c =
    omega (arith, in_outputs c.self.inside.outputs.items c.self.inside.received.items c.args.self.now c.args.net c.self.view_is c.requires.net)

output_at : (g : Over) (c : After-index_mut-output g) → slice_get c.self.inside.outputs.items c.args.net ≡ Some c.index_mut-output.result.now
output_at g c =
    slice_get_read c.self.inside.outputs.items (length c.self.inside.outputs.items) c.args.net c.index_mut-output.result.now refl
    (in_outputs c.self.inside.outputs.items c.self.inside.received.items c.args.self.now c.args.net c.self.view_is c.requires.net)
    c.index_mut-output.ensures.value

here : (g : Over) (c : After-index_mut-output g) → Located c.self.inside.design.now.circuit c.self.inside.outputs.items c.self.inside.received.items c.args.net
    c.pin_range-pins.result.start (c.pin_range-pins.result.end - c.pin_range-pins.result.start) c.as_mut_slice.result.now c.index_mut-output.result.now
here g c =
    located c.self.inside.design.now.circuit c.self.inside.outputs.items c.self.inside.received.items c.args.net c.pin_range-pins.result.start
    c.pin_range-pins.result.end c.as_mut_slice.result.now c.index_mut-output.result.now c.self.invariant.0 (output_at g c)
    c.pin_range-pins.ensures.start c.pin_range-pins.ensures.end c.as_mut_slice.ensures.value

-- the process of the net
abbrev process : (g : Over) → After-index_mut-output g → ProcessView
process g c =
    process_of c.index_mut-output.result.now (slice_range c.as_mut_slice.result.now c.pin_range-pins.result.start c.pin_range-pins.result.end)

stands : (g : Over) (c : After-index_mut-output g) → slice_get c.args.self.now c.args.net ≡ Some (process g c)
stands g c = ap (λ ps. slice_get ps c.args.net) (sym c.self.view_is) ∙ (here g c).stands

is : (g : Over) (c : After-index_mut-output g) (found : ProcessView) → slice_get c.args.self.now c.args.net ≡ Some found → process g c ≡ found
is g c found at = same_Some (process g c) found (sym (stands g c) ∙ at)

is_process : (g : Over) (c : After-index_mut-output g) → (process g c).failed ≡ false → IsProcess (process g c).state
is_process g c = c.self.invariant.0.processes c.args.net _ (here g c).stands

pub receive_below-requires-clause-process : goal.receive_below-requires-clause-process
receive_below-requires-clause-process g c =
    let at = (goal.at.receive_below-requires-clause-process g c).After-index_mut-output in
    is_process g at (c.requires.running _ (stands g at))

pub receive_below-requires-clause-running : goal.receive_below-requires-clause-running
receive_below-requires-clause-running g c = c.requires.running _ (stands g (goal.at.receive_below-requires-clause-running g c).After-index_mut-output)

pub receive_below-requires-clause-place : goal.receive_below-requires-clause-place
receive_below-requires-clause-place g c = c.requires.place _ (stands g (goal.at.receive_below-requires-clause-place g c).After-index_mut-output)

pub receive_below-requires-clause-can_hear : goal.receive_below-requires-clause-can_hear
receive_below-requires-clause-can_hear g c =
    c.requires.can_hear _ (stands g (goal.at.receive_below-requires-clause-can_hear g c).After-index_mut-output)

-- what the lists make once the output and the pins are written
written_now : (g : Over) (c : After-receive_below g) → Located c.self.inside.design.now.circuit c.self.inside.outputs.items c.self.inside.received.items c.args.net c.pin_range-pins.result.start
    (c.pin_range-pins.result.end - c.pin_range-pins.result.start) c.as_mut_slice.result.now c.index_mut-output.result.now →
    processes_of (slice_set c.self.inside.outputs.items c.args.net c.receive_below.new.self)
    (with_items c.self.inside.received (put c.pin_range-pins.result.start (c.pin_range-pins.result.end - c.pin_range-pins.result.start) c.as_mut_slice.result.now c.receive_below.new.received)).items
    ≡ slice_set (processes_of c.self.inside.outputs.items c.self.inside.received.items) c.args.net (process_of c.receive_below.new.self c.receive_below.new.received)
written_now g c located_here =
    now_written c.self.inside.design.now.circuit c.self.inside.outputs.items c.self.inside.received c.args.net c.pin_range-pins.result.start
    (c.pin_range-pins.result.end - c.pin_range-pins.result.start) c.as_mut_slice.result.now c.index_mut-output.result.now located_here c.as_mut_slice.ensures.len
    c.receive_below.new.self c.receive_below.new.received c.receive_below.ensures.net c.receive_below.ensures.pins

stored_now : (g : Over) (c : After-receive_below g) → Located c.self.inside.design.now.circuit c.self.inside.outputs.items c.self.inside.received.items c.args.net c.pin_range-pins.result.start
    (c.pin_range-pins.result.end - c.pin_range-pins.result.start) c.as_mut_slice.result.now c.index_mut-output.result.now →
    (c.receive_below.new.self.failed ≡ false → IsProcess (state_of c.receive_below.new.self c.receive_below.new.received)) →
    AreStored c.self.inside.design.now.circuit (slice_set c.self.inside.outputs.items c.args.net c.receive_below.new.self)
    (with_items c.self.inside.received (put c.pin_range-pins.result.start (c.pin_range-pins.result.end - c.pin_range-pins.result.start) c.as_mut_slice.result.now c.receive_below.new.received)).items
stored_now g c located_here ok =
    now_stored c.self.inside.design.now.circuit c.self.inside.outputs.items c.self.inside.received c.args.net c.pin_range-pins.result.start
    (c.pin_range-pins.result.end - c.pin_range-pins.result.start) c.as_mut_slice.result.now c.index_mut-output.result.now located_here c.as_mut_slice.ensures.len
    c.receive_below.new.self c.receive_below.new.received c.receive_below.ensures.net c.receive_below.ensures.pins ok

pub invariant_of-self : goal.invariant_of-self
invariant_of-self g c =
    let at = (goal.at.invariant_of-self g c).After-index_mut-output in
    let after = (goal.at.invariant_of-self g c).After-receive_below in
    let failed = c.in_err-count.ensures.err in
    let new = process_of c.receive_below.new.self c.receive_below.new.received in (
      stored_now g after (here g at) (λ runs. cc),
      subst (λ ps. AreAtRest ps c.self.inside.quiet.items c.self.inside.heard.items) (sym (written_now g after (here g at))) (record {
        flagged = process_set (processes_of c.self.inside.outputs.items c.self.inside.received.items) c.self.inside.quiet.items c.self.invariant.1.flagged c.args.net new (λ flag runs. cc);
        pins = process_knows (processes_of c.self.inside.outputs.items c.self.inside.received.items) c.self.inside.quiet.items c.self.inside.heard.items c.self.invariant.1.pins c.args.net new
            (λ tick flag to runs. cc);
      }),
    )

pub returns-in_err-count-clause-err : goal.returns-in_err-count-clause-err
returns-in_err-count-clause-err g c =
    let at = (goal.at.returns-in_err-count-clause-err g c).After-index_mut-output in
    let after = (goal.at.returns-in_err-count-clause-err g c).After-receive_below in
    let failed : (p : ProcessView) × (p.failed ≡ true) × (processes_of (slice_set c.self.inside.outputs.items c.args.net c.receive_below.new.self)
    (with_items c.self.inside.received (put c.pin_range-pins.result.start (c.pin_range-pins.result.end - c.pin_range-pins.result.start) c.as_mut_slice.result.now c.receive_below.new.received)).items ≡ slice_set c.args.self.now c.args.net p) = (
      process_of c.receive_below.new.self c.receive_below.new.received,
      c.in_err-count.ensures.err,
      written_now g after (here g at) ∙ ap (λ ps. slice_set ps c.args.net (process_of c.receive_below.new.self c.receive_below.new.received)) c.self.view_is,
    ) in
    OnErr_always _ failed

pub returns-in_err-count-clause-memory : goal.returns-in_err-count-clause-memory
returns-in_err-count-clause-memory g c =
    let at = (goal.at.returns-in_err-count-clause-memory g c).After-index_mut-output in
    let took : ForSome (slice_get c.args.self.now c.args.net) (λ (p : ProcessView).
    list_any is_change (wanted_messages c.args.tick p.state c.args.place c.args.messages.now) ≡ true) =
    λ found there. subst (λ (p : ProcessView). list_any is_change (wanted_messages c.args.tick p.state c.args.place c.args.messages.now) ≡ true)
    (is g at found there) c.in_err-count.ensures.memory in
    OnErr_always _ took

pub invariant_of-self-then-count-gt0 : goal.invariant_of-self-then-count-gt0
invariant_of-self-then-count-gt0 g c =
    let at = (goal.at.invariant_of-self-then-count-gt0 g c).After-index_mut-output in
    let after = (goal.at.invariant_of-self-then-count-gt0 g c).After-receive_below in
    let new = process_of c.receive_below.new.self c.receive_below.new.received in (
      stored_now g after (here g at) (λ runs. c.in_ok-count.ensures.process),
      subst (λ ps. AreAtRest ps (slice_set c.self.inside.quiet.items c.args.net false) c.self.inside.heard.items)
          (sym (written_now g after (here g at))) (record {
            flagged = flag_set (processes_of c.self.inside.outputs.items c.self.inside.received.items) c.self.inside.quiet.items c.self.invariant.1.flagged c.args.net new false (λ raised runs. cc);
            pins = none_known (processes_of c.self.inside.outputs.items c.self.inside.received.items) c.self.inside.quiet.items c.self.inside.heard.items c.self.invariant.1.pins c.args.net new;
          }),
    )

-- a process that took nothing is as it was
pub invariant_of-self-else-count-gt0 : goal.invariant_of-self-else-count-gt0
invariant_of-self-else-count-gt0 g c =
    let at = (goal.at.invariant_of-self-else-count-gt0 g c).After-index_mut-output in
    let after = (goal.at.invariant_of-self-else-count-gt0 g c).After-receive_below in
    let none : c.in_ok-count.count ≡ 0 = omega (arith, c.if-count-gt0.false) in
    let old = process g at in
    let runs = c.requires.running old (stands g at) in
    let same : process_of c.receive_below.new.self c.receive_below.new.received ≡ old =
    c.in_ok-count.ensures.ok
    ∙ ap (λ n. running (heard_all c.args.place (take n c.args.messages.now) old.state)) (sym c.in_ok-count.ensures.count ∙ none)
    ∙ (λ i. record { failed = sym runs i; state = old.state }) in
    let all = written_now g after (here g at) ∙ ap (slice_set (processes_of c.self.inside.outputs.items c.self.inside.received.items) c.args.net) same
    ∙ same_set (processes_of c.self.inside.outputs.items c.self.inside.received.items) c.args.net old (here g at).stands in (
      stored_now g after (here g at) (λ runs. c.in_ok-count.ensures.process),
      subst (λ ps. AreAtRest ps c.self.inside.quiet.items c.self.inside.heard.items) (sym all) c.self.invariant.1,
    )

pub returns-then-count-gt0-clause-count : goal.returns-then-count-gt0-clause-count
returns-then-count-gt0-clause-count g c = λ found there.
    let at = (goal.at.returns-then-count-gt0-clause-count g c).After-index_mut-output in
    c.in_ok-count.ensures.count
    ∙ ap (λ (p : ProcessView). wanted_at c.args.tick p.state c.args.place c.args.messages.now) (is g at found there)

pub returns-then-count-gt0-clause-ok : goal.returns-then-count-gt0-clause-ok
returns-then-count-gt0-clause-ok g c = λ found there.
    let at = (goal.at.returns-then-count-gt0-clause-ok g c).After-index_mut-output in
    let after = (goal.at.returns-then-count-gt0-clause-ok g c).After-receive_below in
    let new = c.in_ok-count.ensures.ok
    ∙ ap (λ (p : ProcessView). running (heard_below c.args.tick c.args.place c.args.messages.now p.state)) (is g at found there) in
    written_now g after (here g at) ∙ (λ i. slice_set (c.self.view_is i) c.args.net (new i))

pub returns-else-count-gt0-clause-count : goal.returns-else-count-gt0-clause-count
returns-else-count-gt0-clause-count g c = λ found there.
    let at = (goal.at.returns-else-count-gt0-clause-count g c).After-index_mut-output in
    c.in_ok-count.ensures.count
    ∙ ap (λ (p : ProcessView). wanted_at c.args.tick p.state c.args.place c.args.messages.now) (is g at found there)

pub returns-else-count-gt0-clause-ok : goal.returns-else-count-gt0-clause-ok
returns-else-count-gt0-clause-ok g c = λ found there.
    let at = (goal.at.returns-else-count-gt0-clause-ok g c).After-index_mut-output in
    let after = (goal.at.returns-else-count-gt0-clause-ok g c).After-receive_below in
    let new = c.in_ok-count.ensures.ok
    ∙ ap (λ (p : ProcessView). running (heard_below c.args.tick c.args.place c.args.messages.now p.state)) (is g at found there) in
    written_now g after (here g at) ∙ (λ i. slice_set (c.self.view_is i) c.args.net (new i))
