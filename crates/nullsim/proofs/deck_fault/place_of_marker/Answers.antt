use Rattle.std.proofs.Common.{◌==◌, rules, tests}
use Rattle.std.proofs.lemmas.Iterator.Search.{position_from_yields_List}
use Rattle.std.proofs.lemmas.Iterator.Splits.{YieldsList-from_slice_split}
use Rattle.texts.specs.Text.{words_of}
use Rattle.nullsim.specs.Decks.{are_just}
use Rattle.nullsim.proofs.deck_fault.place_of_marker.Goals as goal

-- the lines are what a split at line feeds gives
pub returns : goal.returns
returns c =
    position_from_yields_List (λ line. are_just c.args.marker.now (words_of line)) _ _ c.position.result c.position.ensures.ran
    (YieldsList-from_slice_split _ (λ byte. byte == 10) c.args.deck.now c.split.ensures.rest c.split.ensures.done c.split.ensures.closure (λ x r q k. search (rules, tests)))
    (λ x b q k. search (rules, tests))
