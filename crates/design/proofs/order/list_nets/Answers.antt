use Rattle.std.proofs.Common.{◌≡◌, ◌≢◌, ◌==◌, rules, sym, ap, ◌∙◌, refl}
use Rattle.std.proofs.lemmas.Bool.{eq-eqb}
use Rattle.netlist.proofs.CallerLemmas.{test_fails}
use Rattle.design.specs.Flow.{rank, rank_at}
use Rattle.design.proofs.Passing.{listed_more, listed_same}
use Rattle.design.proofs.Ranks.{apart_ranks, rank_is}
use Rattle.design.proofs.order.list_nets.Goals as goal
use Rattle.design.proofs.order.list_nets.Goals.{then-eq+in_ok-push, else-eq}

pub loop-net-preserved : goal.loop-net-preserved
loop-net-preserved c =
    let circuit = c.args.design.now.circuit in
    let here = rank_is circuit c.loop-net.net c.part.result c.part.ensures in
    elim c.if-eq.branch [
      | then-eq+in_ok-push w ↦
          let same : c.part.result ≡ c.args.part = search rules in
          rw (w.list-is, w.in_ok-push.ensures.items) (listed_more (λ net. rank_at circuit net == rank c.args.part) c.loop-net.net c.args.list.now.items c.loop-net.list.items
          (ap (λ those. those == rank c.args.part) (here ∙ ap rank same) ∙ eq-eqb (rank c.args.part) (rank c.args.part) refl) c.loop-net.invariant)
      | else-eq w ↦
          let other : c.part.result ≢ c.args.part = search rules in
          rw w.list-is (listed_same (λ net. rank_at circuit net == rank c.args.part) c.loop-net.net c.args.list.now.items c.loop-net.list.items
          (test_fails (rank_at circuit c.loop-net.net) (rank c.args.part) (λ same. apart_ranks c.part.result c.args.part c.requires other (sym here ∙ same))) c.loop-net.invariant)
    ]
