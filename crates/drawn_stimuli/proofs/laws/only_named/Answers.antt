use Rattle.drawn_stimuli.proofs.OnlyNamed as lemma
use Rattle.drawn_stimuli.proofs.laws.only_named.Goals as goal

pub returns : goal.returns
returns c = lemma.only_named
