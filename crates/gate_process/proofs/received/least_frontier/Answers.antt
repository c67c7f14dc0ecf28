use Rattle.std.proofs.Common.{◌≡◌, ◌+◌, ◌≤◌, min, map, get_or, refl, ap, ◌∙◌, arith}
use Rattle.timing_text.specs.Ranges.{most_delay}
use Rattle.gate_process.specs.Knowledge.{Knowledge}
use Rattle.gate_process.specs.Step.{least_or}
use Rattle.gate_process.proofs.SeenPins.{first_least, next_least, all_seen}
use Rattle.gate_process.proofs.received.least_frontier.Goals as goal
use Rattle.gate_process.proofs.received.least_frontier.Goals.{then-place-eq0, else-place-eq0}

pub loop-place-preserved : goal.loop-place-preserved
loop-place-preserved c =
    let wire = get_or c.args.wires.now c.loop-place.place 0 in
    let pin = c.index-received-place.result in
    let short : wire ≤ most_delay =
    c.requires.wires.most c.loop-place.place 0 (let each = c.requires.wires.each in omega arith) in
    let seen : c.frontier.result + c.from.result ≡ pin.frontier + wire = (λ i. c.frontier.ensures.frontier i + c.from.ensures i) in
    let known = c.frontier.ensures.within in
    elim c.if-place-eq0.branch [
      | then-place-eq0 w ↦ record {
        least = w.least-is ∙ seen ∙ first_least c.args.none c.args.wires.now c.args.received.now c.loop-place.place wire pin c.requires.wires.each
            c.loop-place-test.true refl c.index-received-place.is w.if-place-eq0.true;
        within = omega (arith, w.least-is, known, c.from.ensures, short);
      }
      | else-place-eq0 w ↦ record {
        least = w.least-is ∙ w.min-least.ensures ∙ (λ i. min (c.loop-place.invariant.least i) (seen i))
            ∙ next_least c.args.none c.args.wires.now c.args.received.now c.loop-place.place wire pin c.requires.wires.each
            c.loop-place-test.true refl c.index-received-place.is (let some = w.if-place-eq0.false in omega arith);
        within = omega (arith, w.least-is, w.min-least.ensures, c.loop-place.invariant.within);
      }
    ]

pub returns-clause-least : goal.returns-clause-least
returns-clause-least c =
    c.loop-place.invariant.least
    ∙ ap (λ seen. least_or c.args.none (map (λ (known : Knowledge). known.frontier) seen))
    (all_seen c.args.wires.now c.args.received.now c.loop-place.place c.requires.wires.each c.loop-place-test.false)
