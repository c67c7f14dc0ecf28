use Rattle.std.proofs.Common.{◌≡◌, None, Result, Ok, Err, IfErr, IfOk, OnErr, OnOk, inl, inr, subst}
use Rattle.nullsim.proofs.Noting.{AnswerNoted-outcome}
use Rattle.nullsim.proofs.verbose.answer_read.Goals as goal

-- what holds of a result of which it is known how it ends
module _ {A F : Type 0} (result : Result A F) where
  if-ok : (value : A) (P : A → Type 0) → result ≡ Ok value → IfOk result P → P value
  if-ok value P is holds = subst (λ (r : Result A F). IfOk r P) is holds

  on-ok : (value : A) (P : Type 0) → result ≡ Ok value → OnOk result P → P
  on-ok value P is holds = subst (λ (r : Result A F). OnOk r P) is holds

  if-err : (fault : F) (P : F → Type 0) → result ≡ Err fault → IfErr result P → P fault
  if-err fault P is holds = subst (λ (r : Result A F). IfErr r P) is holds

  on-err : (fault : F) (P : Type 0) → result ≡ Err fault → OnErr result P → P
  on-err fault P is holds = subst (λ (r : Result A F). OnErr r P) is holds

pub returns-in-Ok-clause-reported : goal.returns-in-Ok-clause-reported
returns-in-Ok-clause-reported g c =
    let carried = c.carry_out_heard-failed.result.0 in
    inl (
      g.E.Write.contents c.carry_out_heard-failed.new.err,
      on-ok carried c.in-Ok.outcome _ c.in-Ok.is c.carry_out_heard-failed.ensures.reported,
      AnswerNoted-outcome c.args.texts.now c.args.order.now
          (record { readings = None; out = g.W.Write.contents c.args.out.now; err = g.E.Write.contents c.carry_out_heard-failed.new.err })
          (record { readings = None; out = g.W.Write.contents c.carry_out_heard-failed.new.out; err = g.E.Write.contents c.report_noted.new.err })
          c.in-Ok.outcome c.report_noted.result
          (if-ok carried c.in-Ok.outcome _ c.in-Ok.is c.carry_out_heard-failed.ensures.ok) c.report_noted.ensures.reported c.report_noted.ensures.status,
    )

pub returns-in-Err-clause-reported : goal.returns-in-Err-clause-reported
returns-in-Err-clause-reported g c =
    let carried = c.carry_out_heard-failed.result.0 in
    inr (
      g.E.Write.contents c.carry_out_heard-failed.new.err,
      on-err carried c.in-Err.fault _ c.in-Err.is c.carry_out_heard-failed.ensures.reported_until,
      (
        c.in-Err.fault,
        if-err carried c.in-Err.fault _ c.in-Err.is c.carry_out_heard-failed.ensures.no_read,
        if-err carried c.in-Err.fault _ c.in-Err.is c.carry_out_heard-failed.ensures.err,
        (_, c.report_verbosely.ensures.reported),
      ),
    )
