use Rattle.std.proofs.Common.{◌≡◌, ℕ, List, Option, Bor, sym, ap, ◌∙◌}
use Rattle.std.proofs.lemmas.Result.{IfOk-weaker}
use Rattle.netlist.specs.Names.{seen_names}
use Rattle.netlist.specs.Netlist.{NetlistView}
use Rattle.command_line.specs.declared.order.Order.{Order}
use Rattle.nullsim.specs.AtFault.{first_in_neither, netlist_in, unknown_asked}
use Rattle.nullsim.proofs.names.unknown_asked.Goals as goal

pub returns-in_ok-other-in-Diff : goal.returns-in_ok-other-in-Diff
returns-in_ok-other-in-Diff c =
    let texts = c.args.texts.now in
    let names = c.in-Diff.names.items in
    let one : c.in_ok-one-in-Diff.one ≡ netlist_in texts.first.bench.items = c.in_ok-one-in-Diff.ensures ∙ ap netlist_in c.as_slice.ensures.value in
    let other : c.in_ok-other-in-Diff.other ≡ netlist_in texts.second.bench.items =
    c.in_ok-other-in-Diff.ensures ∙ ap netlist_in c.as_slice-in-Diff.ensures.value in
    let known =
    ap (λ (s : List (Bor (List ℕ))). first_in_neither (seen_names s) c.in_ok-one-in-Diff.one c.in_ok-other-in-Diff.other) c.as_slice-in-Diff-2.ensures.value
    ∙ ap (λ (n : Option NetlistView). first_in_neither (seen_names names) n c.in_ok-other-in-Diff.other) one
    ∙ ap (first_in_neither (seen_names names) (netlist_in texts.first.bench.items)) other
    ∙ sym (ap (λ (o : Order). unknown_asked o c.args.side texts) c.in-Diff.is) in
    IfOk-weaker c.first_in_neither.result _ _ (λ word is. is ∙ known) c.first_in_neither.ensures
