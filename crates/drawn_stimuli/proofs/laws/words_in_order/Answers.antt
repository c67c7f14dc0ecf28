use Rattle.drawn_stimuli.proofs.Words as lemma
use Rattle.drawn_stimuli.proofs.laws.words_in_order.Goals as goal

pub returns : goal.returns
returns c = lemma.words_in_order
