use Rattle.std.proofs.Common.{◌<◌, ◌++◌, ◌∷◌, [], length, map, sym, ap, ◌∙◌, arith}
use Rattle.std.proofs.lemmas.List.{map_more, take_all}
use Rattle.netlist.specs.Netlist.{NetView, net_at}
use Rattle.netlist.proofs.CallerLemmas.{no_net}
use Rattle.timing_text.specs.Timings.{timing_of_net, timing_of_part, wires_of_net}
use Rattle.timing_text.proofs.GivenProperties.{kept-at}
use Rattle.timing_text.proofs.GivenTimings.{length-given, net_timings-made, timing-made, wires-made}
use Rattle.timing_text.proofs.timings.read_timings.Goals as goal

pub index-given-requires : goal.index-given-requires
index-given-requires c =
    let lengths = length-given c.args.netlist.now c.args.text.now c.in_ok-given.given.items (c.in_ok-given.ensures.given (λ same. (cc))) in
    omega (arith, lengths, c.loop-net-test.true, c.nets-net-end.ensures.nets)

pub loop-net-preserved : goal.loop-net-preserved
loop-net-preserved c =
    let netlist = c.args.netlist.now in
    let default = c.args.default_delay in
    let period = c.args.period in
    let net : NetView = net_at netlist c.loop-net.net in
    let within : c.loop-net.net < length netlist.nets = omega (arith, c.loop-net-test.true, c.nets-net-end.ensures.nets) in
    let given = c.index-given.result.now in
    let timing_is = c.timing_of_part-timing.ensures ∙ ap (timing_of_part default period given.properties) c.part-part.ensures in
    record {
      timings = λ lines held.
          let kept = kept-at netlist lines c.in_ok-given.given.items c.loop-net.net given held within c.index-given.ensures in
          let timing = timing-made default period lines net given c.timing_of_part-timing.result kept timing_is in
          c.in_ok-push.ensures.items
          ∙ (λ i. c.loop-net.invariant.timings lines held i ++ timing i ∷ [])
          ∙ sym (map_more (timing_of_net default period lines) netlist.nets c.loop-net.net no_net within);
      wires = λ lines held.
          let kept = kept-at netlist lines c.in_ok-given.given.items c.loop-net.net given held within c.index-given.ensures in
          let wires = c.as_slice.ensures ∙ wires-made lines net given c.in_ok-own_wires.own_wires.items kept c.in_ok-own_wires.ensures in
          c.in_ok-push-2.ensures.ok
          ∙ (λ i. c.loop-net.invariant.wires lines held i ++ wires i ∷ [])
          ∙ sym (map_more (wires_of_net lines) netlist.nets c.loop-net.net no_net within);
    }

pub returns-clause-timings : goal.returns-clause-timings
returns-clause-timings c = λ _.
    let netlist = c.args.netlist.now in
    let all = take_all c.loop-net.net netlist.nets (omega (arith, c.loop-net-test.false, c.nets-net-end.ensures.nets)) in
    net_timings-made netlist c.args.text.now c.in_ok-given.given.items (c.in_ok-given.ensures.given (λ same. (cc)))
    c.args.default_delay c.args.period c.loop-net.timings.items c.loop-net.wires
    (λ lines held. c.loop-net.invariant.timings lines held ∙ ap (map (timing_of_net c.args.default_delay c.args.period lines)) all)
    (λ lines held. c.loop-net.invariant.wires lines held ∙ ap (map (wires_of_net lines)) all)
