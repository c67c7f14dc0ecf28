use Rattle.timing_diagram.proofs.Shown.{column_back, end_back, steady_stays}
use Rattle.timing_diagram.proofs.laws.columns_show_the_signal.Goals as goal

pub returns-clause-shown : goal.returns-clause-shown
returns-clause-shown c = column_back

pub returns-clause-end : goal.returns-clause-end
returns-clause-end c = end_back

pub returns-clause-steady : goal.returns-clause-steady
returns-clause-steady c = steady_stays
