use Rattle.std.proofs.Common.{◌≡◌, ℕ, List, ◌++◌, ap, append_assoc, ◌∙◌}
use Rattle.plain_runs.specs.Text.{notes_of_names, notes_of_texts}
use Rattle.plain_runs.proofs.notes.push_text_notes.Goals as goal

-- texts that were added one after the other
joined : (start first second third fourth fifth sixth a b c d e f : List ℕ) → first ≡ start ++ a → second ≡ first ++ b → third ≡ second ++ c →
    fourth ≡ third ++ d → fifth ≡ fourth ++ e → sixth ≡ fifth ++ f → sixth ≡ start ++ (a ++ b ++ c ++ d ++ e ++ f)
joined start first second third fourth fifth sixth a b c d e f e1 e2 e3 e4 e5 e6 = rw (e6, e5, e4, e3, e2, e1) (simp append_assoc)

pub returns : goal.returns
unfolding notes_of_texts
returns c =
    joined _ _ _ _ _ _ _ _ _ _ _ _ _
    (c.in_ok-push_name_notes.ensures
    ∙ ap (λ netlist. c.args.notes.now.items ++ notes_of_names netlist c.args.source.now.bench.now) c.netlist.ensures)
    c.in_ok-push_doubt.ensures c.in_ok-push_doubt-2.ensures c.in_ok-push_doubt-3.ensures c.in_ok-push_doubt-4.ensures c.in_ok-push_doubt-5.ensures
