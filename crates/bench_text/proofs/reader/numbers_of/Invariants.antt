use Rattle.std.proofs.Common.{◌≡◌, [], drop}
use Rattle.netlist.specs.Names.{seen_names}
use Rattle.bench_text.proofs.Wired.{numbers_from}
use Rattle.bench_text.proofs.reader.numbers_of.Given as goal

-- the numbers so far and those of the names left are all
abbrev pub invariant-loop-pin : goal.invariant-loop-pin
invariant-loop-pin l =
    numbers_from l.names l.line l.numbers.items (seen_names (drop l.pin-index l.pins)) ≡ numbers_from l.names l.line [] (seen_names l.pins)
