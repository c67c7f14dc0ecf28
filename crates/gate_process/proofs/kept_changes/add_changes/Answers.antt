use Rattle.std.proofs.Common.{[], ◌∷◌, ◌++◌, length, ap, sym, ◌∙◌, arith}
use Rattle.std.proofs.lemmas.List.{length-append}
use Rattle.cmb_channels.specs.Packed.{change_said}
use Rattle.gate_process.proofs.Added.{added_change, added_nothing}
use Rattle.gate_process.proofs.kept_changes.add_changes.Goals as goal
use Rattle.gate_process.proofs.kept_changes.add_changes.Goals.{in-Some, in_default}

pub loop-message-preserved : goal.loop-message-preserved
loop-message-preserved c =
    let old = c.args.changes.now.items in
    let news = c.args.news.now in
    let at = c.loop-message.message-index in
    let room = c.loop-message.invariant.room in
    let within = c.loop-message-test.true in
    elim c.match-change.branch [
      | in-Some w ↦
          let told = ap change_said (sym c.message-item.is) ∙ sym c.change.ensures ∙ w.in-Some.is in
          let long = ap length w.push_reserved.ensures.items ∙ length-append c.loop-message.changes.items (w.in-Some.change ∷ []) in
          rw w.changes-is (record {
            items = w.push_reserved.ensures.items
                ∙ ap (λ cs. cs ++ w.in-Some.change ∷ []) c.loop-message.invariant.items
                ∙ added_change old news at c.message-item.result w.in-Some.change (omega (arith, within)) told;
            room = omega (arith, room, within, long, w.push_reserved.ensures.capacity);
          })
      | in_default w ↦
          let none = ap change_said (sym c.message-item.is) ∙ sym c.change.ensures ∙ w.in_default.is in
          rw w.changes-is (record {
            items = c.loop-message.invariant.items ∙ added_nothing old news at c.message-item.result (omega (arith, within)) none;
            room = omega (arith, room, within);
          })
    ]
