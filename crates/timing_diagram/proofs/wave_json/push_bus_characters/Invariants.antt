-- The columns so far and those to come are all.
use Rattle.std.proofs.Common.{◌≡◌, ◌++◌, ◌-◌, map}
use Rattle.std.specs.List.{range_with_len}
use Rattle.logic3.specs.Wave.{value_at}
use Rattle.timing_diagram.specs.WaveJson.{bus_character, bus_characters}
use Rattle.timing_diagram.proofs.wave_json.push_bus_characters.Given as goal

abbrev pub invariant-loop-column : goal.invariant-loop-column
invariant-loop-column l =
    l.characters.items ++ map (bus_character (map value_at l.bits) l.columns) (range_with_len l.column (l.column-end - l.column))
    ≡ l.fn.characters.items ++ bus_characters (map value_at l.bits) l.columns
