use Rattle.std.proofs.Common.{◌≡◌, Bool, sym, ◌∙◌}
use Rattle.std.proofs.lemmas.Result.{IfOk-at_ok, IfOk-weaker}
use Rattle.netlist.specs.Names.{seen_names}
use Rattle.kernel_runs.specs.declared.diff_run.DiffAnswer.{DiffAnswer}
use Rattle.kernel_runs.specs.Diffs.{IsDiff, are_accepted, names_compared, pair_by}
use Rattle.prepared_runs.specs.Prepared.{seen_run}
use Rattle.kernel_runs.proofs.Diffs.{pair_in-known, pair_in-unknown}
use Rattle.kernel_runs.proofs.diff_run.diff_prepared.Goals as goal

pub returns-then-not-accepted-clause-err : goal.returns-then-not-accepted-clause-err
returns-then-not-accepted-clause-err c =
    let one = seen_run c.args.one.now in
    let other = seen_run c.args.other.now in
    let words = seen_names c.args.words.now in
    let said : c.in_ok-accepted.accepted ≡ are_accepted one.design.netlist other.design.netlist words =
    IfOk-at_ok (λ (accepted : Bool). accepted ≡ are_accepted one.design.netlist other.design.netlist words) c.in_ok-accepted.ensures.ok c.is_accepted.ensures.ok in
    pair_in-unknown one other c.args.ticks words (sym said ∙ c.if-not-accepted.true)

pub returns-clause-ok : goal.returns-clause-ok
returns-clause-ok c =
    let one = seen_run c.args.one.now in
    let other = seen_run c.args.other.now in
    let words = seen_names c.args.words.now in
    let said : c.in_ok-accepted.accepted ≡ are_accepted one.design.netlist other.design.netlist words =
    IfOk-at_ok (λ (accepted : Bool). accepted ≡ are_accepted one.design.netlist other.design.netlist words) c.in_ok-accepted.ensures.ok c.is_accepted.ensures.ok in
    let pair = pair_by one other c.args.ticks (names_compared words one.design.netlist other.design.netlist) in
    rw (pair_in-known one other c.args.ticks words (sym said ∙ c.if-not-accepted.false))
    (IfOk-weaker c.blame-2.result _ (λ (answer : DiffAnswer). IsDiff pair answer.text.items answer.same)
    (λ answer is. IfOk-at_ok (λ (answer : DiffAnswer). IsDiff pair answer.text.items answer.same) is c.diff_known.ensures.ok)
    c.blame-2.ensures.ok)
