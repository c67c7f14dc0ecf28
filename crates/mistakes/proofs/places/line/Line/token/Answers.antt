use Rattle.std.proofs.lemmas.Iterator.Consumers.{nth_from_yields_List, YieldsList-from_first}
use Rattle.mistakes.specs.SeenForms.{seen_token}
use Rattle.mistakes.proofs.places.line.Line.token.Goals as goal

pub returns : goal.returns
returns c = nth_from_yields_List c.nth.result _ _ c.nth.ensures.ran (YieldsList-from_first seen_token (λ tokens. tokens) _ c.tokens.ensures.tokens)
