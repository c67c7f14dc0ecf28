use Rattle.std.proofs.Common.{◌≡◌, List, ℕ, Option, None, Some, IfSome, Bor, inl, inr, option_map, refl}
use Rattle.nullsim.proofs.verbose.exit_verbosely.Goals as goal

-- what holds of the words that are handed on holds of them as they are seen
seen : (words : Option (Bor (List ℕ))) (P : List ℕ → Type 0) → IfSome words (λ words. P words.now) → IfSome (option_map (λ words. words.now) words) P
seen None P holds = tt
seen (Some words) P holds = holds

pub returns-in-Ok-clause-reported : goal.returns-in-Ok-clause-reported
returns-in-Ok-clause-reported g c = inr (c.in-Ok.read, c.in-Ok.ensures.ok, c.in-Ok.ensures.read, c.answer_read.ensures.reported)

pub returns-in-Err-clause-reported : goal.returns-in-Err-clause-reported
returns-in-Err-clause-reported g c =
    inl (
      c.in-Err.fault,
      c.in-Err.ensures.err,
      refl,
      (_, seen c.reason.result (λ words. IfSome (g.T.Texts.said c.read_texts.new.texts) (λ all. words ≡ all)) c.reason.ensures, c.report_verbosely.ensures.reported),
    )
