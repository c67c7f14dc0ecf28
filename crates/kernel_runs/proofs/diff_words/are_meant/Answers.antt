use Rattle.std.proofs.Common.{sym, ◌∙◌}
use Rattle.kernel_runs.specs.Diffs.{is_meant}
use Rattle.kernel_runs.proofs.DiffNames.{all_fail, all_more}
use Rattle.kernel_runs.proofs.diff_words.are_meant.Goals as goal

pub returns-then-not-meant : goal.returns-then-not-meant
returns-then-not-meant c =
    sym (all_fail (is_meant c.args.first.now c.args.second.now) c.args.words.now c.loop-word.word-index _ c.loop-word-test.true
    (sym c.in_ok-meant.ensures ∙ c.if-not-meant.true))

pub loop-word-preserved : goal.loop-word-preserved
loop-word-preserved c =
    all_more (is_meant c.args.first.now c.args.second.now) c.args.words.now c.loop-word.word-index _ c.loop-word-test.true c.loop-word.invariant
    (sym c.in_ok-meant.ensures ∙ c.if-not-meant.false)
