-- No bracket so far opens a range.
use Rattle.std.proofs.Common.{◌≡◌, ◌-◌, filter_map, slice_get}
use Rattle.std.specs.List.{range_with_len}
use Rattle.net_words.specs.Meant.{range_at, range_of}
use Rattle.net_words.proofs.meant.range_of.Given as goal

abbrev pub invariant-loop-place : goal.invariant-loop-place
invariant-loop-place l = slice_get (filter_map (range_at l.word) (range_with_len l.place (l.place-end - l.place))) 0 ≡ range_of l.word
