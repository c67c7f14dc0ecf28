use Rattle.plain_runs.proofs.Tested.{noted_so_or_so, shows-undriven, shows-unknown}
use Rattle.plain_runs.proofs.laws.notes_report_x.Goals as goal

pub returns-clause-undriven : goal.returns-clause-undriven
returns-clause-undriven c = λ circuit horizon net tick inside. shows-undriven circuit horizon net tick inside

pub returns-clause-unknown : goal.returns-clause-unknown
returns-clause-unknown c = λ circuit horizon net inside tick within. shows-unknown circuit horizon net tick inside within

pub returns-clause-all : goal.returns-clause-all
returns-clause-all c = λ circuit horizon net below shows. noted_so_or_so circuit horizon net below shows
