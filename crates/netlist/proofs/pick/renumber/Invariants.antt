use Rattle.std.proofs.Common.{◌≡◌, ◌++◌, map, take, drop}
use Rattle.netlist.specs.Pick.{place_in}
use Rattle.netlist.proofs.pick.renumber.Given as goal

-- the places so far, and then the numbers that are left
abbrev pub invariant-loop-number : goal.invariant-loop-number
invariant-loop-number l =
    l.numbers ≡ map (place_in l.keep) (take l.number-index l.initial.numbers) ++ drop l.number-index l.initial.numbers
