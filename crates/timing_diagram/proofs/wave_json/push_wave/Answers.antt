use Rattle.std.proofs.Common.{arith, ◌∙◌, ◌++◌, ◌∷◌, [], ap}
use Rattle.logic3.specs.Wave.{value_at}
use Rattle.timing_diagram.specs.WaveJson.{wave_character}
use Rattle.timing_diagram.proofs.Joined.{map-more}
use Rattle.timing_diagram.proofs.wave_json.push_wave.Goals as goal

pub loop-column-preserved : goal.loop-column-preserved
loop-column-preserved c =
    map-more (wave_character (value_at c.args.wave.now) c.args.columns) c.loop-column.column c.count-column-end.result _ _ (omega arith)
    (c.in_ok-push.ensures.items ∙ ap (λ byte. c.loop-column.characters.items ++ byte ∷ []) c.wave_character.ensures)
    ∙ c.loop-column.invariant
