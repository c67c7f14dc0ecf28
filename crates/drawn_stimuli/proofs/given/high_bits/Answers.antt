use Rattle.std.proofs.Common.{arith}
use Rattle.drawn_stimuli.proofs.WideCounts.{none_high}
use Rattle.drawn_stimuli.proofs.given.high_bits.Goals as goal

pub returns-else-count-lt64 : goal.returns-else-count-lt64
returns-else-count-lt64 c = none_high c.args.bits c.args.count c.ranges.bits.fits (omega (arith, c.if-count-lt64.false))
