use Rattle.std.proofs.Common.{Ok, ap, sym, ◌∙◌, rules}
use Rattle.std.proofs.lemmas.List.Elements.{All-push}
use Rattle.cmb_events.specs.Schedule.{Exists}
use Rattle.cmb_events.proofs.Picks.{picks_then-more, picks_then-last, picks_of-words}
use Rattle.cmb_events.proofs.schedule.Schedule.seeded.Goals as goal

pub loop-pick-preserved : goal.loop-pick-preserved
loop-pick-preserved c =
    let circuit = c.args.design.now.circuit in
    let events = c.loop-pick.events.items in
    let picked = picks_then-more circuit events c.loop-pick._pick c.args.picks c.next_word.result c.loop-pick.words c.next_word.new.self c.loop-pick-test.true c.next_word.ensures in
    let exist = All-push (Exists circuit) events c.pick_of-event.result c.loop-pick.invariant.1 c.pick_of-event.ensures.exists in
    (rw (c.in_ok-push.ensures.items, c.pick_of-event.ensures.pick) (picked ∙ c.loop-pick.invariant.0), rw c.in_ok-push.ensures.items exist, search rules)

pub returns-clause-exact : goal.returns-clause-exact
returns-clause-exact c = λ _.
    let circuit = c.args.design.now.circuit in
    let last = picks_then-last circuit c.loop-pick.events.items c.loop-pick._pick c.args.picks c.loop-pick.words c.loop-pick-test.false in
    ap Ok (sym last ∙ c.loop-pick.invariant.0) ∙ sym (picks_of-words circuit c.args.seed c.args.picks c.if-picks-gt-MOST_EVENTS.false)
