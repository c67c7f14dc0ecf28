-- The characters so far and those to come are all.
use Rattle.std.proofs.Common.{◌≡◌, ◌++◌, drop, map}
use Rattle.logic3.specs.declared.change.Change.{Change}
use Rattle.timing_diagram.specs.WaveJson.{value_character}
use Rattle.timing_diagram.proofs.page_data.push_values.Given as goal

abbrev pub invariant-loop-change : goal.invariant-loop-change
invariant-loop-change l =
    l.values.items ++ map (λ (change : Change). value_character change.value) (drop l.change-index l.changes)
    ≡ l.fn.values.items ++ map (λ (change : Change). value_character change.value) l.changes
