use Rattle.std.proofs.Common.{◌≡◌, map, take}
use Rattle.flat_lists.proofs.lists.FlatLists.of_lists.Given as goal

-- the lists so far
abbrev pub invariant-loop-list : goal.invariant-loop-list
invariant-loop-list g l = l.flat ≡ map g.L.AsSlice.items (take l.list-index l.lists)
