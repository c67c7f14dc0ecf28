use Rattle.std.proofs.Common.{◌≡◌, ◌∙◌, [], ap, arith, length, sym}
use Rattle.std.proofs.lemmas.List.{ext_get_or, get_or-map, length-map}
use Rattle.logic3.specs.declared.value.Value.TheVariants.{Unknown}
use Rattle.prepared_runs.specs.Shown.{wave_at}
use Rattle.plain_runs.proofs.diagram_run.lane_waves.Goals as goal

pub returns-then-are_all : goal.returns-then-are_all
returns-then-are_all c =
    let waves = c.args.waves.items in
    let nets = c.args.nets.now in
    let count : length c.as_slice.result.now ≡ length waves = ap length c.as_slice.ensures.value in
    let many : length nets ≡ length waves = c.are_all.ensures.size c.if-are_all.true ∙ count in
    ext_get_or (record { before = Unknown; changes = [] }) waves _ (sym (length-map nets (wave_at waves) ∙ many))
    (λ place inside. sym (get_or-map (wave_at waves) nets place 0 (record { before = Unknown; changes = [] }) (omega (arith, many))
    ∙ ap (wave_at waves) (c.are_all.ensures.places c.if-are_all.true place (omega (arith, count)))))
