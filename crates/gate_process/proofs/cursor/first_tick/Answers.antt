use Rattle.std.proofs.Common.{sym, ◌∙◌}
use Rattle.gate_process.specs.Knowledge.{unknown_from}
use Rattle.gate_process.proofs.Passed.{first_is, first_unknown}
use Rattle.gate_process.proofs.cursor.first_tick.Goals as goal

pub returns-in-Some : goal.returns-in-Some
returns-in-Some c =
    first_is c.args.later.now (unknown_from c.args.unknown) c.in-Some.first (sym c.first_tick.ensures ∙ c.in-Some.is)

pub returns-in-None : goal.returns-in-None
returns-in-None c =
    c.unwrap_or.ensures ∙ first_unknown c.args.later.now c.args.unknown (sym c.first_tick.ensures ∙ c.in-None.is)
