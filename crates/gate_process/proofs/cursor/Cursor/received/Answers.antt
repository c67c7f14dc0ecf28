use Rattle.std.proofs.Common.{◌≡◌, ℕ, ◌+◌, ◌++◌, List, Some, ap, sym, subst, ◌∙◌}
use Rattle.logic3.specs.Rising.{TicksRise}
use Rattle.logic3.specs.declared.change.Change.{Change}
use Rattle.gate_process.specs.Knowledge.{delayed_changes, unknown_from}
use Rattle.gate_process.proofs.Delayed.{delayed_rise, delayed_with}
use Rattle.gate_process.proofs.cursor.Cursor.received.Goals as goal

-- the changes, and then X
seen : (result changes : List Change) (frontier wire later : ℕ) → result ≡ delayed_changes wire changes → later ≡ wire →
    result ++ unknown_from (Some (frontier + later)) ≡ delayed_changes wire (changes ++ unknown_from (Some frontier))
seen result changes frontier wire later is same =
    (λ i. is i ++ unknown_from (Some (frontier + same i))) ∙ sym (delayed_with wire frontier changes)

pub before_all-requires : goal.before_all-requires
before_all-requires c =
    subst TicksRise (sym (seen c.received.result c.args.changes.now c.args.frontier c.args.wire c.from.result c.received.ensures c.from.ensures))
    (delayed_rise c.args.wire (c.args.changes.now ++ unknown_from (Some c.args.frontier)) c.requires.rise)

pub returns : goal.returns
returns c =
    c.before_all.ensures
    ∙ ap (λ (changes : List Change). record { before = c.args.before; changes = changes })
    (seen c.received.result c.args.changes.now c.args.frontier c.args.wire c.from.result c.received.ensures c.from.ensures)
