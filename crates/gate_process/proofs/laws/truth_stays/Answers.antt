use Rattle.gate_process.proofs.Reckoned.{news_true}
use Rattle.gate_process.proofs.Events.{advanced_knows, heard_knows}
use Rattle.gate_process.proofs.laws.truth_stays.Goals as goal

pub returns-clause-advanced : goal.returns-clause-advanced
returns-clause-advanced c = λ signals number process ok. advanced_knows signals number process ok.meets ok.knows

pub returns-clause-heard : goal.returns-clause-heard
returns-clause-heard c = λ signals number process place to message rest hears.
    heard_knows signals number process place hears.source to hears.received message rest hears.truthful.meets hears.truthful.knows
    hears.pin hears.so_far hears.tells

pub returns-clause-news : goal.returns-clause-news
returns-clause-news c = λ signals number process ok. news_true signals number process ok.meets ok.knows
