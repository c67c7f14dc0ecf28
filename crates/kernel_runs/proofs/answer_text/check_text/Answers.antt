use Rattle.std.proofs.Common.{◌≡◌, ℕ, List, ◌++◌, codes, decimal, ◌∙◌, append_assoc}
use Rattle.std.proofs.lemmas.Result.{IfOk-weaker}
use Rattle.kernel_runs.proofs.answer_text.check_text.Goals as goal

-- the pieces of the format are the three lines
regrouped : (a b c newline nets pins same : List ℕ) →
    a ++ (nets ++ ((newline ++ b) ++ (pins ++ ((newline ++ c) ++ (same ++ newline)))))
    ≡ a ++ nets ++ newline ++ (b ++ pins ++ newline) ++ (c ++ same ++ newline)
regrouped a b c newline nets pins same = simp append_assoc

pub returns : goal.returns
returns c =
    let answer = c.args.answer.now in
    IfOk-weaker c.format.result _ _ (λ text printed. printed ∙ regrouped (codes "nets ") (codes "pins ") (codes "same ") (codes "\n") (decimal answer.nets) (decimal answer.pins) (decimal answer.same))
    c.format.ensures.ok
