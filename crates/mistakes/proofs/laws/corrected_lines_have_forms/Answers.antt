use Rattle.mistakes.proofs.WholeLines.{accepted-whole, only-accepted}
use Rattle.mistakes.proofs.laws.corrected_lines_have_forms.Goals as goal

pub returns-clause-accepted : goal.returns-clause-accepted
returns-clause-accepted c = λ refused table one is. only-accepted refused table one is

pub returns-clause-whole : goal.returns-clause-whole
returns-clause-whole c = λ refused words taken. accepted-whole refused words taken
