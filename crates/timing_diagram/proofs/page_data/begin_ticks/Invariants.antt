-- The ticks so far and those to come are all.
use Rattle.std.proofs.Common.{◌≡◌, ◌++◌, drop, map}
use Rattle.logic3.specs.declared.change.Change.{Change}
use Rattle.logic3.specs.Wave.{value_at}
use Rattle.serde_json.specs.View.{view}
use Rattle.timing_diagram.specs.WavesPage.{begin_ticks, number_data}
use Rattle.timing_diagram.proofs.page_data.begin_ticks.Given as goal

abbrev pub invariant-loop-change : goal.invariant-loop-change
invariant-loop-change l =
    map view l.ticks.items ++ map number_data (map (λ (change : Change). change.tick) (drop l.change-index l.changes))
    ≡ map number_data (begin_ticks (value_at l.wave) l.fn.columns)
