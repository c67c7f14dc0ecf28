-- The parts so far and those to come are all.
use Rattle.std.proofs.Common.{◌≡◌, ◌++◌, flat_map, map}
use Rattle.std.specs.List.{range_with_len}
use Rattle.vcd_dump.specs.Traces.{traces}
use Rattle.timing_diagram.specs.Bus.{seen_bus}
use Rattle.timing_diagram.specs.Drawing.{part_below, parts_below}
use Rattle.timing_diagram.proofs.Joined.{from_on}
use Rattle.timing_diagram.proofs.folded.push_parts_below.Given as goal

abbrev pub invariant-loop-part : goal.invariant-loop-part
invariant-loop-part l =
    let below = part_below l.columns l.count (traces l.design.circuit l.shown l.waves) (map seen_bus l.buses) in
    l.text.items ++ from_on below l.part l.part-end ≡ l.fn.text.items ++ flat_map below (range_with_len 0 (parts_below l.columns l.count))
