use Rattle.std.proofs.Common.{◌≡◌, ◌<◌, [], length, Some, sym, ap, ◌∙◌, subst}
use Rattle.std.proofs.lemmas.List.{get_or-map, length-map}
use Rattle.netlist.specs.Netlist.{net_named}
use Rattle.netlist.specs.Names.{seen_names}
use Rattle.fanin_cone.specs.Extract.{first_unknown}
use Rattle.fanin_cone.proofs.KnownNames.{first_unknown-at, known_more}
use Rattle.fanin_cone.proofs.extraction.net_numbers.Goals as goal

pub returns-in_default-clause-unknown : goal.returns-in_default-clause-unknown
returns-in_default-clause-unknown c at same =
    let names = c.args.names.now in
    let place : c.loop-at.at ≡ at = cc in
    let inside : c.loop-at.at < length (seen_names names) = rw length-map c.loop-at-test.true in
    let here = get_or-map (λ name. name.now) names c.loop-at.at _ [] c.loop-at-test.true in
    subst (λ at. first_unknown c.args.netlist.now (seen_names names) ≡ Some at) place
    (first_unknown-at c.args.netlist.now (seen_names names) c.loop-at.numbers.items c.loop-at.at [] inside c.loop-at.invariant
    (ap (net_named c.args.netlist.now) here ∙ sym c.in_default.ensures))

pub loop-at-preserved : goal.loop-at-preserved
loop-at-preserved c =
    let names = c.args.names.now in
    let inside : c.loop-at.at < length (seen_names names) = rw length-map c.loop-at-test.true in
    let here = get_or-map (λ name. name.now) names c.loop-at.at _ [] c.loop-at-test.true in
    rw c.in_ok-push.ensures.items
    (known_more c.args.netlist.now (seen_names names) c.loop-at.numbers.items c.loop-at.at c.in-Some.net [] inside c.loop-at.invariant
    (ap (net_named c.args.netlist.now) here ∙ sym c.in-Some.ensures))
