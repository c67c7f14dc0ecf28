use Rattle.std.proofs.Common.{◌-◌, max, ap, ◌∙◌}
use Rattle.std.proofs.lemmas.Result.{IfOk-weaker}
use Rattle.logic3.proofs.CallerLemmas.{OnErr_always}
use Rattle.design.specs.Equations.{equation}
use Rattle.gate_process.specs.Knowledge.{seen_pins}
use Rattle.gate_process.specs.Step.{signals_of, first_unknown}
use Rattle.gate_process.proofs.Reach.{reach-stays, reach-moves, reach-walked}
use Rattle.gate_process.proofs.advance.extend.Goals as goal

pub returns-then-stays-clause-to : goal.returns-then-stays-clause-to
returns-then-stays-clause-to c =
    reach-stays (equation c.args.net.now (signals_of (seen_pins c.args.net.now.wires c.args.received.now))) c.args.span.end c.args.span.from
    c.args.span.sure c.requires.sure c.args.net.now.part c.requires.ahead (rw (← c.most-most.ensures) (c.stays.ensures.yes c.if-stays.true))

pub returns-clause-to : goal.returns-clause-to
returns-clause-to c =
    IfOk-weaker c.reckon.result _ _ (λ to reckoned.
    reckoned
    ∙ ap (λ most. first_unknown (equation c.args.net.now (signals_of (seen_pins c.args.net.now.wires c.args.received.now)))
    (max c.args.span.from c.args.span.sure) (most - max c.args.span.from c.args.span.sure)) c.most-most.ensures
    ∙ reach-walked (equation c.args.net.now (signals_of (seen_pins c.args.net.now.wires c.args.received.now))) c.args.span.end c.args.span.from
    c.args.span.sure c.requires.sure c.args.net.now.part c.requires.ahead) c.reckon.ensures.to

pub returns-clause-memory : goal.returns-clause-memory
returns-clause-memory c =
    let goes_on = c.stays.ensures.no c.if-stays.false in
    OnErr_always c.reckon.result
    (reach-moves (equation c.args.net.now (signals_of (seen_pins c.args.net.now.wires c.args.received.now))) c.args.span.end c.args.span.from
    c.args.span.sure c.requires.sure c.args.net.now.part (rw (← c.most-most.ensures) goes_on.0) goes_on.1)
