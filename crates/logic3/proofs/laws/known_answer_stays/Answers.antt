use Rattle.std.specs.Prelude.{slice_set}
use Rattle.logic3.proofs.GateLemmas.{value_of_gate-Refines, Refines-slice_set}
use Rattle.logic3.proofs.laws.known_answer_stays.Goals as goal

pub returns-clause-one_pin : goal.returns-clause-one_pin
returns-clause-one_pin c kind pins place value x =
    value_of_gate-Refines kind pins (slice_set pins place value) (Refines-slice_set pins place value x)

pub returns-clause-any_pins : goal.returns-clause-any_pins
returns-clause-any_pins c = value_of_gate-Refines
