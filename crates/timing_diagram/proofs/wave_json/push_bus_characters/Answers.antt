use Rattle.std.proofs.Common.{arith, ◌∙◌, ◌++◌, ◌∷◌, [], ap, map}
use Rattle.logic3.specs.Wave.{value_at}
use Rattle.timing_diagram.specs.WaveJson.{bus_character}
use Rattle.timing_diagram.proofs.Joined.{map-more}
use Rattle.timing_diagram.proofs.wave_json.push_bus_characters.Goals as goal

pub loop-column-preserved : goal.loop-column-preserved
loop-column-preserved c =
    map-more (bus_character (map value_at c.args.bits.now) c.args.columns) c.loop-column.column c.count-column-end.result _ _ (omega arith)
    (c.in_ok-push.ensures.items ∙ ap (λ byte. c.loop-column.characters.items ++ byte ∷ []) c.bus_character.ensures)
    ∙ c.loop-column.invariant
