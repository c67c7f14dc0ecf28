use Rattle.std.proofs.Common.{◌≡◌, ◌-◌, false, length, Some, slice_get, slice_set, slice_range, refl, ap, sym, subst, ◌∙◌, arith}
use Rattle.std.specs.Vec.{with_items}
use Rattle.std.proofs.lemmas.Option.{slice_get_read, same_Some}
use Rattle.gate_process.specs.Outputs.{state_of, process_of, processes_of, AreStored}
use Rattle.gate_process.specs.Quiet.{AreAtRest}
use Rattle.gate_process.specs.Step.{ProcessView, running, heard}
use Rattle.gate_process.specs.Truth.{IsProcess}
use Rattle.gate_process.proofs.Quiet.{flag_set, none_known}
use Rattle.gate_process.proofs.Stored.{put, Located, located, in_outputs, in_circuit, same_set, now_written, now_stored}
use Rattle.gate_process.proofs.processes.Processes.receive.Given.{Over}
use Rattle.gate_process.proofs.processes.Processes.receive.Goals as goal
use Rattle.gate_process.proofs.processes.Processes.receive.Goals.{After-index, After-receive}

pub pin_range-pins-requires : goal.pin_range-pins-requires
pin_range-pins-requires g c =
    in_circuit c.self.inside.design.now.circuit c.self.inside.outputs.items c.self.inside.received.items c.args.self.now c.args.net
    c.self.invariant.0 c.self.view_is c.requires.net

pub index-requires : goal.index-requires
index-requires g c =
    omega (arith, in_outputs c.self.inside.outputs.items c.self.inside.received.items c.args.self.now c.args.net c.self.view_is c.requires.net)

output_at : (g : Over) (c : After-index g) → slice_get c.self.inside.outputs.items c.args.net ≡ Some c.index.result.now
output_at g c =
    slice_get_read c.self.inside.outputs.items (length c.self.inside.outputs.items) c.args.net c.index.result.now refl
    (in_outputs c.self.inside.outputs.items c.self.inside.received.items c.args.self.now c.args.net c.self.view_is c.requires.net)
    c.index.ensures

here : (g : Over) (c : After-index g) → Located c.self.inside.design.now.circuit c.self.inside.outputs.items c.self.inside.received.items c.args.net
    c.pin_range-pins.result.start (c.pin_range-pins.result.end - c.pin_range-pins.result.start) c.as_mut_slice.result.now c.index.result.now
here g c =
    located c.self.inside.design.now.circuit c.self.inside.outputs.items c.self.inside.received.items c.args.net c.pin_range-pins.result.start
    c.pin_range-pins.result.end c.as_mut_slice.result.now c.index.result.now c.self.invariant.0 (output_at g c)
    c.pin_range-pins.ensures.start c.pin_range-pins.ensures.end c.as_mut_slice.ensures.value

-- the process of the net
abbrev process : (g : Over) → After-index g → ProcessView
process g c =
    process_of c.index.result.now (slice_range c.as_mut_slice.result.now c.pin_range-pins.result.start c.pin_range-pins.result.end)

stands : (g : Over) (c : After-index g) → slice_get c.args.self.now c.args.net ≡ Some (process g c)
stands g c = ap (λ ps. slice_get ps c.args.net) (sym c.self.view_is) ∙ (here g c).stands

is : (g : Over) (c : After-index g) (found : ProcessView) → slice_get c.args.self.now c.args.net ≡ Some found → process g c ≡ found
is g c found at = same_Some (process g c) found (sym (stands g c) ∙ at)

is_process : (g : Over) (c : After-index g) → (process g c).failed ≡ false → IsProcess (process g c).state
is_process g c = c.self.invariant.0.processes c.args.net _ (here g c).stands

pub receive-requires-clause-process : goal.receive-requires-clause-process
receive-requires-clause-process g c =
    let at = (goal.at.receive-requires-clause-process g c).After-index in
    is_process g at (c.requires.running _ (stands g at))

pub receive-requires-clause-place : goal.receive-requires-clause-place
receive-requires-clause-place g c = c.requires.place _ (stands g (goal.at.receive-requires-clause-place g c).After-index)

pub receive-requires-clause-can_hear : goal.receive-requires-clause-can_hear
receive-requires-clause-can_hear g c = c.requires.can_hear _ (stands g (goal.at.receive-requires-clause-can_hear g c).After-index)

-- what the lists make once the pins are written
written_now : (g : Over) (c : After-receive g) → Located c.self.inside.design.now.circuit c.self.inside.outputs.items c.self.inside.received.items c.args.net c.pin_range-pins.result.start
    (c.pin_range-pins.result.end - c.pin_range-pins.result.start) c.as_mut_slice.result.now c.index.result.now →
    slice_get c.self.inside.outputs.items c.args.net ≡ Some c.index.result.now →
    processes_of c.self.inside.outputs.items (with_items c.self.inside.received (put c.pin_range-pins.result.start (c.pin_range-pins.result.end - c.pin_range-pins.result.start) c.as_mut_slice.result.now c.receive.new.received)).items
    ≡ slice_set (processes_of c.self.inside.outputs.items c.self.inside.received.items) c.args.net (process_of c.index.result.now c.receive.new.received)
written_now g c located_here at =
    ap (λ outputs. processes_of outputs (with_items c.self.inside.received (put c.pin_range-pins.result.start (c.pin_range-pins.result.end - c.pin_range-pins.result.start) c.as_mut_slice.result.now c.receive.new.received)).items)
    (sym (same_set c.self.inside.outputs.items c.args.net c.index.result.now at))
    ∙ now_written c.self.inside.design.now.circuit c.self.inside.outputs.items c.self.inside.received c.args.net c.pin_range-pins.result.start
    (c.pin_range-pins.result.end - c.pin_range-pins.result.start) c.as_mut_slice.result.now c.index.result.now located_here c.as_mut_slice.ensures.len
    c.index.result.now c.receive.new.received refl c.receive.ensures.pins

stored_now : (g : Over) (c : After-receive g) → Located c.self.inside.design.now.circuit c.self.inside.outputs.items c.self.inside.received.items c.args.net c.pin_range-pins.result.start
    (c.pin_range-pins.result.end - c.pin_range-pins.result.start) c.as_mut_slice.result.now c.index.result.now →
    slice_get c.self.inside.outputs.items c.args.net ≡ Some c.index.result.now →
    (c.index.result.now.failed ≡ false → IsProcess (state_of c.index.result.now c.receive.new.received)) →
    AreStored c.self.inside.design.now.circuit c.self.inside.outputs.items (with_items c.self.inside.received (put c.pin_range-pins.result.start (c.pin_range-pins.result.end - c.pin_range-pins.result.start) c.as_mut_slice.result.now c.receive.new.received)).items
stored_now g c located_here at ok =
    subst (λ outputs. AreStored c.self.inside.design.now.circuit outputs (with_items c.self.inside.received (put c.pin_range-pins.result.start (c.pin_range-pins.result.end - c.pin_range-pins.result.start) c.as_mut_slice.result.now c.receive.new.received)).items)
    (same_set c.self.inside.outputs.items c.args.net c.index.result.now at)
    (now_stored c.self.inside.design.now.circuit c.self.inside.outputs.items c.self.inside.received c.args.net c.pin_range-pins.result.start
    (c.pin_range-pins.result.end - c.pin_range-pins.result.start) c.as_mut_slice.result.now c.index.result.now located_here c.as_mut_slice.ensures.len
    c.index.result.now c.receive.new.received refl c.receive.ensures.pins ok)

at_rest : (g : Over) (c : After-receive g) → Located c.self.inside.design.now.circuit c.self.inside.outputs.items c.self.inside.received.items c.args.net c.pin_range-pins.result.start
    (c.pin_range-pins.result.end - c.pin_range-pins.result.start) c.as_mut_slice.result.now c.index.result.now →
    slice_get c.self.inside.outputs.items c.args.net ≡ Some c.index.result.now →
    AreAtRest (processes_of c.self.inside.outputs.items c.self.inside.received.items) c.self.inside.quiet.items c.self.inside.heard.items →
    AreAtRest (processes_of c.self.inside.outputs.items (with_items c.self.inside.received (put c.pin_range-pins.result.start (c.pin_range-pins.result.end - c.pin_range-pins.result.start) c.as_mut_slice.result.now c.receive.new.received)).items)
    (slice_set c.self.inside.quiet.items c.args.net false) c.self.inside.heard.items
at_rest g c located_here at rest =
    let new = process_of c.index.result.now c.receive.new.received in
    subst (λ ps. AreAtRest ps (slice_set c.self.inside.quiet.items c.args.net false) c.self.inside.heard.items)
    (sym (written_now g c located_here at)) (record {
      flagged = flag_set (processes_of c.self.inside.outputs.items c.self.inside.received.items) c.self.inside.quiet.items rest.flagged c.args.net new false (λ raised runs. cc);
      pins = none_known (processes_of c.self.inside.outputs.items c.self.inside.received.items) c.self.inside.quiet.items c.self.inside.heard.items rest.pins c.args.net new;
    })

pub invariant_of-self : goal.invariant_of-self
invariant_of-self g c =
    let at = (goal.at.invariant_of-self g c).After-index in
    let after = (goal.at.invariant_of-self g c).After-receive in (
      stored_now g after (here g at) (output_at g at)
          (λ runs. subst (λ pins. IsProcess (state_of c.index.result.now pins)) (sym c.in_err-receive.ensures.err) (is_process g at runs)),
      at_rest g after (here g at) (output_at g at) c.self.invariant.1,
    )

pub invariant_of-self-2 : goal.invariant_of-self-2
invariant_of-self-2 g c =
    let at = (goal.at.invariant_of-self-2 g c).After-index in
    let after = (goal.at.invariant_of-self-2 g c).After-receive in (
      stored_now g after (here g at) (output_at g at) (λ runs. c.in_ok-receive.ensures.process),
      at_rest g after (here g at) (output_at g at) c.self.invariant.1,
    )

pub returns-clause-ok : goal.returns-clause-ok
returns-clause-ok g c = λ found there.
    let at = (goal.at.returns-clause-ok g c).After-index in
    let after = (goal.at.returns-clause-ok g c).After-receive in
    let runs = c.requires.running (process g at) (stands g at) in
    let state = c.in_ok-receive.ensures.ok
    ∙ ap (λ (p : ProcessView). heard c.args.place c.args.message p.state) (is g at found there) in
    let new : process_of c.index.result.now c.receive.new.received ≡ running (heard c.args.place c.args.message found.state) =
    λ i. record { failed = runs i; state = state i } in
    written_now g after (here g at) (output_at g at) ∙ (λ i. slice_set (c.self.view_is i) c.args.net (new i))
