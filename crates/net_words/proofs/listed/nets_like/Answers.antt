use Rattle.std.proofs.Common.{◌∙◌, ◌<◌, ℕ, All, ap, arith, length, sym, subst}
use Rattle.netlist.specs.Netlist.{name_at}
use Rattle.net_words.specs.Pattern.{has_pattern}
use Rattle.net_words.proofs.Words.{exist-like, like_more, like_same}
use Rattle.net_words.proofs.listed.nets_like.Goals as goal
use Rattle.net_words.proofs.listed.nets_like.Goals.{then-branch+in_ok-push, else-branch}

pub loop-net-preserved : goal.loop-net-preserved
loop-net-preserved c =
    let pattern = c.args.pattern.now in
    let p = λ (net : ℕ). has_pattern pattern (name_at c.args.netlist.now net) in
    let has = ap (has_pattern pattern) (sym c.name.ensures) ∙ sym c.in_ok-has_pattern.ensures in
    elim c.if-branch.branch [
      | then-branch+in_ok-push w ↦
          rw (w.nets-is, w.in_ok-push.ensures.items) (like_more p c.loop-net.net c.loop-net.nets.items (has ∙ w.if-branch.true) c.loop-net.invariant)
      | else-branch w ↦ rw w.nets-is (like_same p c.loop-net.net c.loop-net.nets.items (has ∙ w.if-branch.false) c.loop-net.invariant)
    ]

pub returns-clause-exist : goal.returns-clause-exist
returns-clause-exist c =
    let netlist = c.args.netlist.now in
    subst (All (λ net. net < length netlist.nets)) (sym c.loop-net.invariant)
    (exist-like netlist c.args.pattern.now c.loop-net.net (omega (arith, c.loop-net.auto.net-end, c.nets-net-end.ensures.nets)))
