use Rattle.std.proofs.Common.{◌≡◌, [], length, map, replicate, None, ap, ◌∙◌, arith, rules}
use Rattle.netlist.specs.Netlist.{net_at}
use Rattle.netlist.proofs.CallerLemmas.{no_net}
use Rattle.timing_text.specs.declared.given.NetGiven.{NetGiven}
use Rattle.timing_text.specs.GivenSoFar.{given_to_net, seen_given}
use Rattle.timing_text.proofs.GivenTimings.{map-both_more, no_wires-replicate}
use Rattle.timing_text.proofs.given.nothing_given.Goals as goal

pub loop-net-preserved : goal.loop-net-preserved
loop-net-preserved c =
    let netlist = c.args.netlist.now in
    let net = net_at netlist c.loop-net.net in
    let stored : NetGiven = record { properties = c.none.result; wires = c.in_ok-from_elem.field-0 } in
    let none : stored.wires.items ≡ replicate (length net.pins) None =
    c.in_ok-from_elem.ensures.items_if_clones_equal (λ y same. search rules) ∙ ap (λ pins. replicate (length pins) None) c.pins_of.ensures in
    let wires = none ∙ no_wires-replicate net.name (length net.pins) in
    let seen : seen_given stored ≡ given_to_net [] net = λ i. (c.none.ensures i, wires i) in
    ap (map seen_given) c.in_ok-push.ensures.items
    ∙ map-both_more seen_given (given_to_net []) c.loop-net.given.items netlist.nets c.loop-net.net stored no_net
    (omega (arith, c.loop-net-test.true, c.nets-net-end.ensures.nets)) c.loop-net.invariant seen
