use Rattle.std.proofs.Common.{rules, tests, sym, ap, ◌∙◌, option_map}
use Rattle.std.proofs.lemmas.Iterator.{YieldsList-from_slice}
use Rattle.std.proofs.lemmas.Iterator.Adapters.{option_map_id}
use Rattle.std.proofs.lemmas.Iterator.Consumers.{YieldsList-from_copied}
use Rattle.std.proofs.lemmas.Iterator.Search.{find_from_yields_List}
use Rattle.nullsim.specs.AtFault.{names_nothing}
use Rattle.nullsim.proofs.Firsts.{find-map}
use Rattle.nullsim.proofs.names.first_unknown.Goals as goal

pub returns : goal.returns
returns c =
    let is_unknown = names_nothing c.args.netlist.now in
    let found = find_from_yields_List (λ name. is_unknown name.now) _ _ c.find.result c.find.ensures.ran
    (YieldsList-from_copied (YieldsList-from_slice c.args.names.now cc)) (λ x b q k. search (rules, tests)) in
    ap (option_map (λ name. name.now)) (sym (option_map_id c.find.result) ∙ found)
    ∙ find-map (λ name. name.now) is_unknown c.args.names.now
