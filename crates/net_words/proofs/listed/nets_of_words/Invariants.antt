-- The nets so far, and those of the words to come, are all.
use Rattle.std.proofs.Common.{◌≡◌, ◌<◌, All, drop, length}
use Rattle.netlist.specs.Names.{seen_names}
use Rattle.net_words.specs.Listed.{nets_of_words}
use Rattle.net_words.proofs.Words.{with_rest}
use Rattle.net_words.proofs.listed.nets_of_words.Given as goal

abbrev pub invariant-loop-word : goal.invariant-loop-word
invariant-loop-word l = record {
  nets : with_rest l.netlist l.nets.items (drop l.word-index (seen_names l.words)) ≡ nets_of_words l.netlist (seen_names l.words);
  exist : All (λ net. net < length l.netlist.nets) l.nets.items;
}
