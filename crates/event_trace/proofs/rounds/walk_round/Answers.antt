use Rattle.std.proofs.Common.{List, All, sym, subst, ◌∙◌}
use Rattle.std.proofs.lemmas.Result.{on_err_weaker}
use Rattle.design.specs.Circuit.{Circuit}
use Rattle.cmb_events.specs.declared.event.Event.{Event}
use Rattle.cmb_events.specs.Schedule.{Exists}
use Rattle.cmb_kernel.specs.Step.{round_events}
use Rattle.cmb_kernel.proofs.CallerLemmas.{round_exists}
use Rattle.texts.specs.Written.{AppendsPrefix}
use Rattle.event_trace.proofs.RoundEvents.{round_lines_are}
use Rattle.event_trace.proofs.rounds.walk_round.Goals as goal

pub walk-requires-clause-exist : goal.walk-requires-clause-exist
walk-requires-clause-exist g c =
    subst (λ (events : List Event). All (Exists c.args.design.now.circuit) events)
    (sym (c.as_slice.ensures.value ∙ c.in_ok-events.ensures.events))
    (subst (λ (circuit : Circuit). All (Exists circuit) (round_events c.args.kernel.now.state)) c.requires.circuit
    (round_exists c.args.kernel.now.circuit c.args.kernel.now.end c.args.kernel.now.state (c.is_failed.ensures.sound c.requires.running)))

pub returns-clause-err : goal.returns-clause-err
returns-clause-err g c =
    on_err_weaker c.walk.result
    (subst (AppendsPrefix (g.W.Write.contents c.args.out.now) (g.W.Write.contents c.walk.new.out))
    (round_lines_are c.args.shown c.args.design.now.circuit c.args.kernel.now.state c.args.number c.args.text.now.items c.push_round.new.text.items c.as_slice.result.now
    (c.as_slice.ensures.value ∙ c.in_ok-events.ensures.events) c.in_ok-push_round.ensures))
    c.walk.ensures.err
