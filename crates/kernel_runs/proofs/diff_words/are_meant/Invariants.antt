-- The words so far mean nets.
use Rattle.std.proofs.Common.{◌≡◌, true, take}
use Rattle.std.specs.List.{list_all}
use Rattle.netlist.specs.Names.{seen_names}
use Rattle.kernel_runs.specs.Diffs.{is_meant}
use Rattle.kernel_runs.proofs.diff_words.are_meant.Given as goal

abbrev pub invariant-loop-word : goal.invariant-loop-word
invariant-loop-word l = list_all (is_meant l.first l.second) (take l.word-index (seen_names l.words)) ≡ true
