use Rattle.circuit_info.proofs.Levelling.{one_levelling, no_loop, each_has_level}
use Rattle.circuit_info.proofs.Heights.{levels_where_each_has_one}
use Rattle.circuit_info.proofs.laws.one_levelling.Goals as goal

pub returns-clause-one : goal.returns-clause-one
returns-clause-one c = one_levelling

pub returns-clause-no_loop : goal.returns-clause-no_loop
returns-clause-no_loop c = no_loop

pub returns-clause-each : goal.returns-clause-each
returns-clause-each c = each_has_level

pub returns-clause-some : goal.returns-clause-some
returns-clause-some c = levels_where_each_has_one
