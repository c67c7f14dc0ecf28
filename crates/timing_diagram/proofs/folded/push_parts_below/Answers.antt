use Rattle.std.proofs.Common.{◌∙◌, arith, map}
use Rattle.vcd_dump.specs.Traces.{traces}
use Rattle.timing_diagram.specs.Bus.{seen_bus}
use Rattle.timing_diagram.specs.Drawing.{part_below}
use Rattle.timing_diagram.proofs.Joined.{from_on-more}
use Rattle.timing_diagram.proofs.folded.push_parts_below.Goals as goal

pub loop-part-preserved : goal.loop-part-preserved
loop-part-preserved c =
    let below = part_below c.args.columns c.args.count (traces c.args.design.now.circuit c.args.shown.now c.args.waves.now) (map seen_bus c.args.buses.now) in
    from_on-more below c.loop-part.part c.parts_below-part-end.result _ _ (omega arith) c.in_ok-push_part_below.ensures ∙ c.loop-part.invariant
