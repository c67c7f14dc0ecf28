use Rattle.std.proofs.Common.{sym}
use Rattle.std.proofs.lemmas.List.{take-map}
use Rattle.mistakes.proofs.corrections.applying.up_to.Goals as goal

pub returns-then-count-words : goal.returns-then-count-words
returns-then-count-words c = sym (take-map (λ word. word.now) c.args.count c.args.words.now)
