-- A kernel that has failed may be drained to any tick.
use Rattle.std.proofs.Common.{◌≡◌, ◌∙◌, true, sym, true≢false, rules}
use Rattle.engine_tests.proofs.rationed.refuses_drains.Goals as goal

pub drain_below_into-answer-requires-clause-above : goal.drain_below_into-answer-requires-clause-above
drain_below_into-answer-requires-clause-above g c = λ runs.
    let failed : c.args.kernel.now.failed ≡ true = search rules in
    absurd (true≢false (sym failed ∙ runs))

pub drain_below_into-answer-requires-clause-known : goal.drain_below_into-answer-requires-clause-known
drain_below_into-answer-requires-clause-known g c = λ runs.
    let failed : c.args.kernel.now.failed ≡ true = search rules in
    absurd (true≢false (sym failed ∙ runs))
