use Rattle.std.proofs.Common.{◌<◌, length, All, Contains, sym, subst}
use Rattle.std.proofs.lemmas.List.Elements.{All-contains_itself, All-weaker}
use Rattle.view_tests.proofs.info.text.told.Goals as goal

-- what lies outside of a cone is a net
pub info_text-requires : goal.info_text-requires
info_text-requires c =
    let nets = c.in_ok-nets.nets.items in
    subst (All (λ net. net < length c.args.netlist.now.nets)) (sym c.as_slice.ensures.value)
    (All-weaker (Contains nets) (λ net. net < length c.args.netlist.now.nets) (λ net on. ((c.in_ok-nets.ensures.nets net).0 on).0) nets (All-contains_itself nets))
