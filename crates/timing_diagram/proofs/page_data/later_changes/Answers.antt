use Rattle.timing_diagram.proofs.Later.{within-later}
use Rattle.std.proofs.Common.{arith, ◌∙◌}
use Rattle.timing_diagram.proofs.page_data.later_changes.Goals as goal

pub returns : goal.returns
returns c =
    c.changes_within.ensures
    ∙ within-later c.args.wave.now c.args.columns c.from_tick.result c.to_tick.result c.from_tick.ensures.from c.to_tick.ensures.to
    (omega (arith, c.from_tick.ensures.forward)) c.changes-alternating.ensures.alternates
