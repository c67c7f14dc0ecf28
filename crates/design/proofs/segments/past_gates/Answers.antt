use Rattle.std.proofs.Common.{ℕ, ◌≤◌, sym, ◌∙◌, subst, arith, get_or, true≢false, All, Contains}
use borrow.Author.Count.{below_more}
use Rattle.std.proofs.lemmas.List.{get_or_default}
use Rattle.std.proofs.lemmas.List.Elements.{All-contains, Contains-get_or}
use Rattle.design.specs.Flow.{IsGate}
use Rattle.design.specs.Segments.{past_of}
use Rattle.design.proofs.Untimed.{gate_told, pins_told}
use Rattle.design.proofs.WellFormed.{pins_below}
use Rattle.design.proofs.segments.past_gates.Goals as goal
use Rattle.design.proofs.segments.past_gates.Goals.{then-is_gate+then-past-pin, else-is_gate, else-is_gate-via-then-is_gate+else-past-pin, else-is_gate-via-else-is_gate}

pub part-requires-in-loop-pin : goal.part-requires-in-loop-pin
part-requires-in-loop-pin c =
    pins_below c.args.design.now c.nets.ensures.well_formed c.args.net c.pins_of-pins.result.now c.pins_of-pins.ensures c.loop-pin.pin-index 0 (omega (arith, c.loop-pin-test.true))

pub bounds-past-pin : goal.bounds-past-pin
bounds-past-pin c =
    let below = pins_below c.args.design.now c.nets.ensures.well_formed c.args.net c.pins_of-pins.result.now c.pins_of-pins.ensures c.loop-pin.pin-index 0 (omega (arith, c.loop-pin-test.true)) in
    omega (arith, below, c.requires.size)

pub returns-clause-each : goal.returns-clause-each
returns-clause-each c = λ source gate feeds.
    let circuit = c.args.design.now.circuit in
    let pins = c.pins_of-pins.result.now in
    let holds = rw (pins_told circuit c.args.net pins c.pins_of-pins.ensures) at feeds.at_pin in
    let all : All (λ s. IsGate circuit s → past_of c.args.past.now s ≤ c.loop-pin.last) pins =
    (λ place d below. subst (λ s. IsGate circuit s → past_of c.args.past.now s ≤ c.loop-pin.last) (get_or_default pins place 0 d below)
    (c.loop-pin.invariant.each place (omega (arith, below, c.loop-pin-test.false)))) in
    All-contains (λ s. IsGate circuit s → past_of c.args.past.now s ≤ c.loop-pin.last) pins source all holds gate

pub returns-clause-there : goal.returns-clause-there
returns-clause-there c some =
    let circuit = c.args.design.now.circuit in
    let pins = c.pins_of-pins.result.now in
    let found = c.loop-pin.invariant.there some in
    let source : ℕ = get_or pins found.0 0 in (
      source,
      found.2,
      record {
        by_gate = gate_told circuit c.args.net c.part.result c.part.ensures ∙ sym c.is_gate.ensures ∙ c.if-not-is_gate.false;
        at_pin = subst (λ pins. Contains pins source) (sym (pins_told circuit c.args.net pins c.pins_of-pins.ensures)) (Contains-get_or pins found.0 0 found.1);
      },
      found.3,
    )

pub loop-pin-preserved : goal.loop-pin-preserved
loop-pin-preserved c =
    let circuit = c.args.design.now.circuit in
    let pin : ℕ = get_or c.pins_of-pins.result.now c.loop-pin.pin-index 0 in
    let gate = gate_told circuit pin c.part-in-loop-pin.result c.part-in-loop-pin.ensures ∙ sym c.is_gate-in-loop-pin.ensures in
    let each = c.loop-pin.invariant.each in
    elim c.if-is_gate.branch [
      | then-is_gate+then-past-pin w ↦ record {
        each = below_more _ c.loop-pin.pin-index (λ place before is. let e = each place before is in omega (arith, e, w.if-past-pin.true, w.last-is)) (λ is. omega (arith, w.last-is));
        there = λ some. (c.loop-pin.pin-index, c.loop-pin-test.true, gate ∙ w.if-is_gate.true, sym w.last-is);
      }
      | else-is_gate w ↦ rw w.last-is (record {
        each = below_more _ c.loop-pin.pin-index each (elim w.else-is_gate.branch [
          | else-is_gate-via-then-is_gate+else-past-pin v ↦ λ is. omega (arith, v.if-past-pin.false)
          | else-is_gate-via-else-is_gate v ↦ λ is. absurd (true≢false (sym is ∙ gate ∙ v.if-is_gate.false))
        ]);
        there = c.loop-pin.invariant.there;
      })
    ]
