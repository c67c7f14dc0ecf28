use Rattle.std.proofs.Common.{ap, sym, ◌∙◌}
use Rattle.std.specs.Option.{option_copied}
use Rattle.gate_process.proofs.Early.{all_early}
use Rattle.gate_process.proofs.kept_changes.kept_below.Goals as goal

-- where the last is before the tick, all are
pub returns-then-tick-2-clause-count : goal.returns-then-tick-2-clause-count
returns-then-tick-2-clause-count c =
    all_early c.args.changes.now c.args.tick _ c.requires (sym c.last.ensures.value ∙ ap option_copied c.in-Some-last.is)
    (rw c.tick-in-Some-last.ensures at c.if-tick-2.true)
