use Rattle.nullsim.proofs.version.asks_for_version.Goals as goal

pub returns-then-words-eq1 : goal.returns-then-words-eq1
returns-then-words-eq1 c = rw c.if-words-eq1.true c.has_version_word.ensures
