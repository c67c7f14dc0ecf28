use Rattle.std.proofs.Common.{◌≡◌, ◌<◌, ap, sym, subst, ◌∙◌}
use Rattle.std.specs.Vec.{with_items}
use Rattle.std.proofs.lemmas.List.{with_items_is}
use Rattle.logic3.proofs.CallerLemmas.{OnErr_always}
use Rattle.gate_process.specs.Outputs.{state_of, process_of}
use Rattle.gate_process.specs.Quiet.{IsQuiet}
use Rattle.gate_process.specs.Step.{ProcessState, ProcessView, running, next_frontier, advanced}
use Rattle.gate_process.proofs.process.Process.advance_into.Goals as goal
use Rattle.gate_process.proofs.process.Process.advance_into.Goals.{After-advance_into}

before : (c : After-advance_into) → state_of c.self.inside.output c.as_mut_slice-received.result.now ≡ c.args.self.now.state
before c =
    ap (state_of c.self.inside.output) c.as_mut_slice-received.ensures.value ∙ ap (λ (view : ProcessView). view.state) c.self.view_is

items : (c : After-advance_into) →
    (with_items c.self.inside.received c.advance_into.new.received).items ≡ c.advance_into.new.received
items c =
    with_items_is c.self.inside.received c.advance_into.new.received (c.advance_into.ensures.pins ∙ c.as_mut_slice-received.ensures.len)

pub returns-in_err-advance_into-clause-memory : goal.returns-in_err-advance_into-clause-memory
returns-in_err-advance_into-clause-memory c =
    let at = (goal.at.returns-in_err-advance_into-clause-memory c).After-advance_into in
    OnErr_always _ (subst (λ (p : ProcessState). p.known.frontier < next_frontier p) (before at) c.in_err-advance_into.ensures.memory)

pub returns-clause-state : goal.returns-clause-state
returns-clause-state c =
    let at = (goal.at.returns-clause-state c).After-advance_into in
    ap (process_of c.advance_into.new.self) (items at) ∙ c.in_ok-advance_into.ensures.state ∙ ap (λ p. running (advanced p)) (before at)

pub returns-clause-quiet : goal.returns-clause-quiet
returns-clause-quiet c =
    let at = (goal.at.returns-clause-quiet c).After-advance_into in
    subst (λ pins. IsQuiet (state_of c.advance_into.new.self pins)) (sym (items at)) c.in_ok-advance_into.ensures.quiet
