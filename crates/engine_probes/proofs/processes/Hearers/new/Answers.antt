use Rattle.std.proofs.Common.{◌≡◌, ℕ, ◌+◌, ◌<◌, length, map, Some, slice_get, refl, ap, sym, subst, ◌∙◌, arith}
use Rattle.std.specs.Option.{option_map}
use Rattle.std.proofs.lemmas.Bool.{eqb-false}
use Rattle.std.proofs.lemmas.List.{length-map}
use Rattle.std.proofs.lemmas.Option.{same_Some}
use Rattle.design.specs.Circuit.{Net, Circuit}
use Rattle.gate_process.specs.Knowledge.{nothing_known}
use Rattle.gate_process.specs.Step.{ProcessView, running, started_process}
use Rattle.gate_process.proofs.CallerLemmas.{get_of_map}
use Rattle.engine_probes.proofs.processes.Hearers.new.Goals as goal

-- the process of a net, before it knows anything
abbrev started : ℕ → Net → ProcessView
started horizon net = running (started_process (horizon + 1) net)

pub invariant_of-result-clause-is_net : goal.invariant_of-result-clause-is_net
invariant_of-result-clause-is_net c =
    let long = ap length c.in_ok-new.ensures.processes ∙ length-map c.args.design.now.circuit (started c.args.horizon) in
    omega (arith, long, c.requires.net)

pub invariant_of-result-clause-has_pin : goal.invariant_of-result-clause-has_pin
invariant_of-result-clause-has_pin c = λ process at.
    let there = get_of_map (started c.args.horizon) c.args.design.now.circuit c.args.net process
    (ap (λ ps. slice_get ps c.args.net) (sym c.in_ok-new.ensures.processes) ∙ at) in
    let pins = same_Some _ _ (ap (option_map (λ (n : Net). n.pins)) (sym there.1) ∙ c.pins_of.ensures) in
    let some = eqb-false (length c.pins_of.result.now) 0 (sym c.is_empty.ensures ∙ c.if-is_empty.false) in
    rw there.2 (omega (arith, some, ap length pins, length-map there.0.pins (λ (pin : ℕ). nothing_known)))

pub invariant_of-result-clause-ends : goal.invariant_of-result-clause-ends
invariant_of-result-clause-ends c = λ process at.
    let there = get_of_map (started c.args.horizon) c.args.design.now.circuit c.args.net process
    (ap (λ ps. slice_get ps c.args.net) (sym c.in_ok-new.ensures.processes) ∙ at) in
    rw (there.2, c.ticks.ensures.ticks) refl
