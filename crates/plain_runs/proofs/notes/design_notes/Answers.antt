use Rattle.std.proofs.Common.{◌≡◌, ℕ, List, [], ◌++◌, refl, ap, ◌∙◌}
use Rattle.plain_runs.specs.Text.{notes_of_design, outputs_note, unused_note}
use Rattle.plain_runs.proofs.notes.design_notes.Goals as goal

-- texts that were added one behind the other
joined : (start first second third fourth fifth last a b c d e f : List ℕ) → start ≡ [] → first ≡ start ++ a → second ≡ first ++ b →
    third ≡ second ++ c → fourth ≡ third ++ d → fifth ≡ fourth ++ e → last ≡ fifth ++ f → last ≡ a ++ b ++ c ++ d ++ e ++ f
joined start first second third fourth fifth last a b c d e f e0 e1 e2 e3 e4 e5 e6 = rw (e6, e5, e4, e3, e2, e1, e0) refl

pub returns : goal.returns
unfolding notes_of_design
returns c =
    joined _ _ _ _ _ _ _ _ _ _ _ _ _ c.new-text.ensures.items
    (c.in_ok-push_outputs_note.ensures ∙ ap (λ line. c.new-text.result.items ++ outputs_note line) c.netlist.ensures)
    c.in_ok-push_remark.ensures c.in_ok-push_remark-2.ensures
    (c.in_ok-push_unused.ensures ∙ ap (λ netlist. c.push_remark-2.new.text.items ++ unused_note netlist) c.netlist-2.ensures)
    c.in_ok-push_remark-3.ensures c.in_ok-push_late_flops.ensures
