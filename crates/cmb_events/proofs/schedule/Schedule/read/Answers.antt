use Rattle.std.proofs.Common.{◌≡◌, [], Ok, arith, rules}
use Rattle.texts.specs.Fold.{fold_text}
use Rattle.cmb_events.specs.Schedule.{events_after}
use Rattle.cmb_events.proofs.EventCount.{few-events_of}
use Rattle.cmb_events.proofs.schedule.Schedule.read.Goals as goal

pub returns-clause-few : goal.returns-clause-few
returns-clause-few c =
    let circuit = c.args.design.now.circuit in
    let text = c.args.text.now in
    let events = c.loop-line.events.items in
    let given : fold_text (events_after circuit) [] text ≡ Ok events = search rules in
    few-events_of circuit text events (omega arith) given
