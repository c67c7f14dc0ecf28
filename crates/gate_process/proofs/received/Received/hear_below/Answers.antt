use Rattle.std.proofs.Common.{◌<◌, sym, ap, ◌∙◌, arith}
use Rattle.std.proofs.lemmas.Option.{slice_get_within}
use Rattle.logic3.proofs.CallerLemmas.{OnErr_always}
use Rattle.gate_process.proofs.Hears.{change_taken, heard_all, hears_message, hears_more, told_fits}
use Rattle.gate_process.proofs.received.Received.hear_below.Goals as goal
use Rattle.gate_process.proofs.received.Received.hear_below.Goals.{After-from}

-- the pin is known to less than the tick
early : (c : After-from) → c.from.result < c.args.tick → c.loop-self.self.frontier < c.args.tick
early c test = omega (arith, test, c.from.ensures, ap (λ it. it.frontier) c.self.view_is)

pub packed_at-requires : goal.packed_at-requires
packed_at-requires c message at =
    let less = early (goal.at.packed_at-requires c).After-from c.loop-self-test.true in
    told_fits c.loop-self.self message (hears_message c.loop-self.invariant message at less).1

pub hear-requires-clause-raises : goal.hear-requires-clause-raises
hear-requires-clause-raises c =
    let less = early (goal.at.hear-requires-clause-raises c).After-from c.loop-self-test.true in
    (hears_message c.loop-self.invariant c.in-Some.message (sym c.packed_at.ensures.message ∙ c.in-Some.is) less).0

pub hear-requires-clause-fits : goal.hear-requires-clause-fits
hear-requires-clause-fits c =
    let less = early (goal.at.hear-requires-clause-fits c).After-from c.loop-self-test.true in
    (hears_message c.loop-self.invariant c.in-Some.message (sym c.packed_at.ensures.message ∙ c.in-Some.is) less).1

pub hear-requires-clause-wave : goal.hear-requires-clause-wave
hear-requires-clause-wave c =
    let less = early (goal.at.hear-requires-clause-wave c).After-from c.loop-self-test.true in
    (hears_message c.loop-self.invariant c.in-Some.message (sym c.packed_at.ensures.message ∙ c.in-Some.is) less).2

pub overflow_add-count : goal.overflow_add-count
overflow_add-count c =
    omega (
      arith,
      slice_get_within c.args.messages.now c.loop-self.count c.in-Some.message (sym c.packed_at.ensures.message ∙ c.in-Some.is),
      c.packed_at.ensures.few,
    )

pub loop-self-smaller : goal.loop-self-smaller
loop-self-smaller c =
    omega (arith, slice_get_within c.args.messages.now c.loop-self.count c.in-Some.message (sym c.packed_at.ensures.message ∙ c.in-Some.is))

pub returns-in_err-hear-clause-memory : goal.returns-in_err-hear-clause-memory
returns-in_err-hear-clause-memory c =
    let less = early (goal.at.returns-in_err-hear-clause-memory c).After-from c.loop-self-test.true in
    OnErr_always c.from_residual.result
    (change_taken c.loop-self.invariant c.in-Some.message (sym c.packed_at.ensures.message ∙ c.in-Some.is) less (c.in_err-hear.ensures.memory))

pub loop-self-preserved : goal.loop-self-preserved
loop-self-preserved c =
    let less = early (goal.at.loop-self-preserved c).After-from c.loop-self-test.true in
    rw c.in_ok-hear.ensures.ok (hears_more c.loop-self.invariant c.in-Some.message (sym c.packed_at.ensures.message ∙ c.in-Some.is) less)

pub returns-in_default-clause-count : goal.returns-in_default-clause-count
returns-in_default-clause-count c = (heard_all c.loop-self.invariant (sym c.packed_at.ensures.message ∙ c.in_default.is)).0

pub returns-in_default-clause-ok : goal.returns-in_default-clause-ok
returns-in_default-clause-ok c = (heard_all c.loop-self.invariant (sym c.packed_at.ensures.message ∙ c.in_default.is)).1
