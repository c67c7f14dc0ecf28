use Rattle.std.proofs.Common.{◌∙◌, sym, rules, tests}
use Rattle.std.proofs.lemmas.Iterator.{YieldsList-from_slice}
use Rattle.std.proofs.lemmas.Iterator.Search.{any_from_yields_List}
use Rattle.mistakes.specs.Places.{is_same_slot}
use Rattle.mistakes.specs.SeenForms.{seen_slot}
use Rattle.mistakes.proofs.Mapped.{list_any-map}
use Rattle.mistakes.proofs.places.line.has_slot.Goals as goal

pub returns : goal.returns
returns c =
    any_from_yields_List (λ other. is_same_slot (seen_slot c.args.slot) (seen_slot other)) _ _ _ c.any.ensures.ran
    (YieldsList-from_slice c.args.slots.now cc) (λ x b q k. search (rules, tests))
    ∙ sym (list_any-map (is_same_slot (seen_slot c.args.slot)) seen_slot c.args.slots.now)
