use Rattle.std.proofs.Common.{◌≡◌, ◌∙◌, ℕ, List, ◌++◌, ap, codes, append_assoc}
use Rattle.vcd_dump.proofs.lines.push_declaration.Goals as goal

-- five pieces that were added one by one
joined : (l l₁ l₂ l₃ l₄ l₅ a b c d e f : List ℕ) → l₁ ≡ l ++ a → l₂ ≡ l₁ ++ b → l₃ ≡ l₂ ++ c → l₄ ≡ l₃ ++ d → l₅ ≡ l₄ ++ (e ++ f) →
    l₅ ≡ l ++ (a ++ b ++ c ++ d ++ e ++ f)
joined l l₁ l₂ l₃ l₄ l₅ a b c d e f p q r s t = rw (t, s, r, q, p) (simp append_assoc)

pub returns : goal.returns
returns c =
    joined _ _ _ _ _ _ (codes "$var wire 1 ") c.args.code.now (codes " ") c.args.name.now (codes " $end") (codes "\n")
    c.in_ok-extend_from_slice.ensures.items (c.in_ok-extend_from_slice-2.ensures.items ∙ ap (λ code. c.extend_from_slice.new.self.items ++ code) c.as_slice.ensures)
    c.in_ok-push.ensures.items c.in_ok-extend_from_slice-3.ensures.items c.in_ok-extend_from_slice-4.ensures.items
