use Rattle.std.proofs.Common.{◌≡◌, ◌∙◌, ap, ℕ, List, ◌++◌, codes, append_assoc}
use Rattle.vcd_dump.specs.Dump.{unit_text}
use Rattle.vcd_dump.proofs.lines.push_heading.Goals as goal

-- three pieces that were added one by one are three lines
joined : (l l₁ l₂ l₃ a b c d e f : List ℕ) → l₁ ≡ l ++ (a ++ b) → l₂ ≡ l₁ ++ c → l₃ ≡ l₂ ++ (d ++ e ++ f) → l₃ ≡ l ++ (a ++ (b ++ c ++ d ++ e) ++ f)
joined l l₁ l₂ l₃ a b c d e f p q r = rw (r, q, p) (simp append_assoc)

pub returns : goal.returns
returns c =
    joined _ _ _ _ (codes "$version nullsim 1 $end\n") (codes "$timescale 1 ") (unit_text c.args.unit) (codes " $end") (codes "\n")
    (codes "$scope module top $end\n")
    c.in_ok-extend_from_slice.ensures.items
    (c.in_ok-extend_from_slice-2.ensures.items ∙ ap
    (λ xs. c.extend_from_slice.new.self.items ++ xs) c.unit_text.ensures) c.in_ok-extend_from_slice-3.ensures.items
