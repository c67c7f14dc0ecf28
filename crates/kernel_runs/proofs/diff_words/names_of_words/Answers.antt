use Rattle.std.proofs.Common.{◌∙◌}
use Rattle.netlist.specs.Names.{seen_names}
use Rattle.kernel_runs.specs.Diffs.{names_of_word}
use Rattle.kernel_runs.proofs.DiffNames.{one_word}
use Rattle.kernel_runs.proofs.diff_words.names_of_words.Goals as goal

pub loop-word-preserved : goal.loop-word-preserved
loop-word-preserved c =
    one_word (names_of_word c.args.first.now c.args.second.now) c.args.words.now c.loop-word.word-index _ c.loop-word-test.true
    (seen_names c.loop-word.names.items) _ c.in_ok-push_names_of_word.ensures
    ∙ c.loop-word.invariant
