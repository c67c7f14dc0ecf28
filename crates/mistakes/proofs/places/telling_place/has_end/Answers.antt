use Rattle.std.proofs.Common.{◌∙◌, sym, rules, tests}
use Rattle.std.proofs.lemmas.Iterator.{YieldsList-from_slice}
use Rattle.std.proofs.lemmas.Iterator.Search.{any_from_yields_List}
use Rattle.mistakes.specs.Places.{is_end}
use Rattle.mistakes.specs.SeenForms.{seen_slot}
use Rattle.mistakes.proofs.Mapped.{list_any-map}
use Rattle.mistakes.proofs.places.telling_place.has_end.Goals as goal

pub returns : goal.returns
returns c =
    any_from_yields_List (λ slot. is_end (seen_slot slot)) _ _ _ c.any.ensures.ran
    (YieldsList-from_slice c.args.slots.now cc) (λ x b q k. search (rules, tests))
    ∙ sym (list_any-map is_end seen_slot c.args.slots.now)
