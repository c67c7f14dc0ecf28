use Rattle.std.proofs.Common.{rules, Result, Ok, Err, OnErr, OnOk, true, subst, ◌∙◌}
use Rattle.std.proofs.lemmas.Result.{on_err_weaker, on_ok_weaker}
use Rattle.texts.specs.Written.{AppendsPrefix}
use Rattle.prepared_runs.specs.Percents.{progress_text}
use Rattle.prepared_runs.proofs.CallerLemmas.{AppendsPrefix-progress}
use Rattle.program_io.specs.Progress.{BrokenTicks, DoneTicks, horizon_reported}
use Rattle.nullsim.specs.Progress.{ReportsProgress}
use Rattle.nullsim.proofs.carrying.carry_out.Goals as goal

-- what holds of both ends
either : {A F P Q R : Type 0} (result : Result A F) → (P → R) → (Q → R) → OnOk result P → OnErr result Q → R
either (Ok value) good bad ok err = good ok
either (Err fault) good bad ok err = bad err

pub returns-clause-reported : goal.returns-clause-reported
returns-clause-reported g c =
    let bytes = g.E.Write.contents in
    let carried = c.write_answer-carried.ensures in
    let order = c.args.order.now in
    let name = c.end-err.ensures.same_writer
    ∙ either c.write_answer-carried.result (λ reported. reported.1.0) (λ reported. reported.1.0) carried.reported carried.reported_until ∙ c.new-percents.ensures.same_writer in
    let reported : OnOk c.write_answer-carried.result (ReportsProgress true order (DoneTicks order) (bytes c.args.err.now) (bytes c.end-err.result.now)) =
    on_ok_weaker c.write_answer-carried.result
    (λ reported. (
      reported.0,
      reported.2,
      subst (λ old. AppendsPrefix (bytes old) (bytes c.end-err.result.now) (progress_text (horizon_reported order) reported.0)) c.new-percents.ensures.bytes
          (AppendsPrefix-progress (horizon_reported order) _ _ reported.0 (bytes c.end-err.result.now) c.new-percents.ensures.next reported.1.1 c.end-err.ensures.text c.end-err.ensures.failed),
    ))
    carried.reported in
    search rules

pub returns-clause-reported_until : goal.returns-clause-reported_until
returns-clause-reported_until g c =
    let bytes = g.E.Write.contents in
    let carried = c.write_answer-carried.ensures in
    let order = c.args.order.now in
    let name = c.end-err.ensures.same_writer
    ∙ either c.write_answer-carried.result (λ reported. reported.1.0) (λ reported. reported.1.0) carried.reported carried.reported_until ∙ c.new-percents.ensures.same_writer in
    let reported : OnErr c.write_answer-carried.result (ReportsProgress true order (BrokenTicks order) (bytes c.args.err.now) (bytes c.end-err.result.now)) =
    on_err_weaker c.write_answer-carried.result
    (λ reported. (
      reported.0,
      reported.2,
      subst (λ old. AppendsPrefix (bytes old) (bytes c.end-err.result.now) (progress_text (horizon_reported order) reported.0)) c.new-percents.ensures.bytes
          (AppendsPrefix-progress (horizon_reported order) _ _ reported.0 (bytes c.end-err.result.now) c.new-percents.ensures.next reported.1.1 c.end-err.ensures.text c.end-err.ensures.failed),
    ))
    carried.reported_until in
    search rules
