-- The names for the words so far, and those for the words to come, are all.
use Rattle.std.proofs.Common.{◌≡◌, ◌++◌, drop, flat_map}
use Rattle.netlist.specs.Names.{seen_names}
use Rattle.kernel_runs.specs.Diffs.{names_of_word}
use Rattle.kernel_runs.proofs.diff_words.names_of_words.Given as goal

abbrev pub invariant-loop-word : goal.invariant-loop-word
invariant-loop-word l =
    seen_names l.names.items ++ flat_map (names_of_word l.first l.second) (drop l.word-index (seen_names l.words))
    ≡ flat_map (names_of_word l.first l.second) (seen_names l.words)
