use Rattle.std.proofs.Common.{◌∙◌, not, rules, tests}
use Rattle.std.proofs.lemmas.Iterator.{YieldsList-from_slice}
use Rattle.std.proofs.lemmas.Iterator.Search.{any_from_yields_List}
use Rattle.texts.specs.Text.{is_white}
use Rattle.texts.proofs.Cuts.{list_any-has_words}
use Rattle.texts.proofs.reading.words.has_words.Goals as goal

pub returns : goal.returns
returns c =
    any_from_yields_List (λ byte. not (is_white byte)) _ _ _ c.any.ensures.ran (YieldsList-from_slice c.args.line.now cc) (λ x b q k. search (rules, tests))
    ∙ list_any-has_words c.args.line.now
