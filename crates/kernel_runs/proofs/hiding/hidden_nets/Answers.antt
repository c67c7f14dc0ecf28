use Rattle.std.proofs.Common.{◌≡◌, ◌<◌, false, length, sym, subst, ◌∙◌, arith}
use Rattle.std.proofs.lemmas.List.{get_or_default}
use Rattle.kernel_runs.specs.Drained.{IsRest}
use Rattle.kernel_runs.proofs.Others.{IsRest-none, IsRest-more, IsRest-same}
use Rattle.kernel_runs.proofs.hiding.hidden_nets.Goals as goal
use Rattle.kernel_runs.proofs.hiding.hidden_nets.Goals.{then-not-index+in_ok-push, else-not-index}

pub loop-net-init : goal.loop-net-init
loop-net-init c = rw c.new-hidden.ensures.items (IsRest-none c.args.shown.now)

pub loop-net-preserved : goal.loop-net-preserved
loop-net-preserved c =
    let shown = c.args.shown.now in
    let net = c.loop-net.net in
    let hidden = c.loop-net.hidden.items in
    let marks = c.in_ok-marks.marks.items in
    let within : net < length marks = omega (arith, c.in_ok-marks.ensures.size) in
    let marked = sym (c.in_ok-marks.ensures.marks net) ∙ get_or_default marks net false c.index.result.now within ∙ sym c.index.ensures in
    elim c.if-not-index.branch [
      | then-not-index+in_ok-push w ↦
          rw (w.hidden-is, w.in_ok-push.ensures.items) (IsRest-more shown net hidden c.loop-net.invariant (marked ∙ w.if-not-index.true))
      | else-not-index w ↦ rw w.hidden-is (IsRest-same shown net hidden c.loop-net.invariant (marked ∙ w.if-not-index.false))
    ]

pub returns : goal.returns
returns c =
    let all : c.loop-net.net ≡ c.args.nets = omega arith in
    subst (λ count. IsRest count c.args.shown.now c.loop-net.hidden.items) all c.loop-net.invariant
