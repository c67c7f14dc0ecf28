use Rattle.std.proofs.Common.{◌≡◌, ◌≢◌, ◌+◌, ◌<◌, ◌==◌, length, rules, refl, sym, ap, ◌∙◌, arith}
use Rattle.std.proofs.lemmas.Bool.{eq-eqb}
use Rattle.std.proofs.lemmas.List.Sums.{count_by_more_yes, count_by_more_no}
use Rattle.netlist.specs.Netlist.{NetView, net_at}
use Rattle.netlist.proofs.CallerLemmas.{no_net, test_fails}
use Rattle.circuit_info.specs.Counts.{part_code}
use Rattle.circuit_info.proofs.Codes.{apart_codes}
use Rattle.circuit_info.proofs.counts.part_count.Goals as goal
use Rattle.circuit_info.proofs.counts.part_count.Goals.{then-eq, else-eq}

pub loop-net-preserved : goal.loop-net-preserved
loop-net-preserved c =
    let within : c.loop-net.net < length c.args.netlist.now.nets = omega (arith, c.loop-net-test.true, c.nets-net-end.ensures.nets) in
    elim c.if-eq.branch [
      | then-eq w ↦
          let same : c.part.result ≡ c.args.part = search rules in
          w.count-is ∙ ap (λ n. n + 1) c.loop-net.invariant
          ∙ sym (count_by_more_yes (λ (net : NetView). part_code net.part == part_code c.args.part) c.args.netlist.now.nets c.loop-net.net no_net within
          (ap (λ part. part_code part == part_code c.args.part) (sym c.part.ensures ∙ same) ∙ eq-eqb (part_code c.args.part) (part_code c.args.part) refl))
      | else-eq w ↦
          let apart : c.part.result ≢ c.args.part = search rules in
          w.count-is ∙ c.loop-net.invariant
          ∙ sym (count_by_more_no (λ (net : NetView). part_code net.part == part_code c.args.part) c.args.netlist.now.nets c.loop-net.net no_net within
          (test_fails (part_code (net_at c.args.netlist.now c.loop-net.net).part) (part_code c.args.part)
          (apart_codes (net_at c.args.netlist.now c.loop-net.net).part c.args.part (λ same. apart (c.part.ensures ∙ same)))))
    ]
