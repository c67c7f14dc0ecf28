use Rattle.std.proofs.lemmas.Result.{on_ok_weaker}
use Rattle.event_trace.proofs.Messages.{told_all, told_more}
use Rattle.event_trace.proofs.lines.push_messages.Goals as goal

pub returns-then-tell_up_to : goal.returns-then-tell_up_to
returns-then-tell_up_to c =
    told_all c.args.changes.now c.args.from c.args.to c.args.text.now.items c.push_changes.new.text.items c.if-to-from.false
    c.in_ok-push_changes.ensures (c.tell_up_to.ensures.0 c.if-tell_up_to.true)

pub returns : goal.returns
returns c =
    on_ok_weaker c.push_numbered.result
    (told_more c.args.changes.now c.args.from c.args.to c.args.text.now.items c.push_changes.new.text.items c.if-to-from.false
    c.in_ok-push_changes.ensures c.push_numbered.new.text.items (λ same. let all = c.tell_up_to.ensures.1 same in let not_all = c.if-tell_up_to.false in (cc)))
    c.push_numbered.ensures
