-- The line of counts, written number by number.
use Rattle.std.proofs.Common.{ℕ, List, ◌++◌, Option, codes, decimal}
use Rattle.texts.specs.Written.{AppendsPrefix, numbered}
use Rattle.texts.proofs.CallerLemmas.{AppendsPrefix-longer}
use Rattle.cmb_kernel.specs.declared.counts.Counts.{Counts}
use Rattle.event_trace.specs.Lines.{counts_line}

-- the line up to each of its numbers
abbrev pub upto_events : Counts → List ℕ
upto_events counts = numbered (codes "events ") counts.events

abbrev pub upto_changes : Counts → List ℕ
upto_changes counts = upto_events counts ++ codes " changes " ++ decimal counts.changes

abbrev pub upto_nulls : Counts → List ℕ
upto_nulls counts = upto_changes counts ++ codes " nulls " ++ decimal counts.nulls

abbrev pub upto_rounds : Counts → List ℕ
upto_rounds counts = upto_nulls counts ++ codes " rounds " ++ decimal counts.rounds

module _ (old new : Option (List ℕ)) (counts : Counts) where
  numbered_longer : (text words : List ℕ) (number : ℕ) → AppendsPrefix old new text → AppendsPrefix old new (text ++ words ++ decimal number)
  numbered_longer text words number part =
      AppendsPrefix-longer old new (text ++ words) (decimal number) (AppendsPrefix-longer old new text words part)

  -- a prefix of the line up to a number is one of the line
  pub rounds_broken : AppendsPrefix old new (upto_rounds counts) → AppendsPrefix old new (counts_line counts)
  rounds_broken part = AppendsPrefix-longer old new (upto_rounds counts) (codes "\n") part

  pub nulls_broken : AppendsPrefix old new (upto_nulls counts) → AppendsPrefix old new (counts_line counts)
  nulls_broken part = rounds_broken (numbered_longer (upto_nulls counts) (codes " rounds ") counts.rounds part)

  pub changes_broken : AppendsPrefix old new (upto_changes counts) → AppendsPrefix old new (counts_line counts)
  changes_broken part = nulls_broken (numbered_longer (upto_changes counts) (codes " nulls ") counts.nulls part)

  pub events_broken : AppendsPrefix old new (upto_events counts) → AppendsPrefix old new (counts_line counts)
  events_broken part = changes_broken (numbered_longer (upto_events counts) (codes " changes ") counts.changes part)
