use Rattle.nullsim.proofs.arguments.asks_for_verbose_deck.Goals as goal

pub returns-then-words-eq1 : goal.returns-then-words-eq1
returns-then-words-eq1 c = rw c.if-words-eq1.true c.has_verbose_word.ensures
