use Rattle.std.proofs.Common.{◌≡◌, Result, Ok, Err, IfErr, IfOk, inl, inr, refl, subst}
use Rattle.nullsim.proofs.Telling.{IsOkAnd-went}
use Rattle.nullsim.proofs.verbose_deck.exit_of_deck.Goals as goal

-- what holds of a result of which it is known how it ends
module _ {A F : Type 0} (result : Result A F) where
  if-ok : (value : A) (P : A → Type 0) → result ≡ Ok value → IfOk result P → P value
  if-ok value P is holds = subst (λ (r : Result A F). IfOk r P) is holds

  if-err : (fault : F) (P : F → Type 0) → result ≡ Err fault → IfErr result P → P fault
  if-err fault P is holds = subst (λ (r : Result A F). IfErr r P) is holds

pub returns-in-Ok : goal.returns-in-Ok
returns-in-Ok g c =
    let written = c.write_deck_heard-failed.result.0 in
    inl (refl, IsOkAnd-went _ _ _ _ (if-ok written _ _ c.in-Ok.is c.write_deck_heard-failed.ensures.ok), c.write_notes.ensures)

pub returns-in-Err : goal.returns-in-Err
returns-in-Err g c =
    let written = c.write_deck_heard-failed.result.0 in
    inr (
      c.in-Err.fault,
      if-err written c.in-Err.fault _ c.in-Err.is c.write_deck_heard-failed.ensures.no_read,
      if-err written c.in-Err.fault _ c.in-Err.is c.write_deck_heard-failed.ensures.err,
      c.report_deck.ensures,
    )
