use Rattle.std.proofs.Common.{◌≡◌, length, subst, arith}
use Rattle.design.specs.Segments.{IsAhead}
use Rattle.design.proofs.Cutting.{IsAhead-push}
use Rattle.design.proofs.segments.gates_ahead.Goals as goal

pub loop-net-preserved : goal.loop-net-preserved
loop-net-preserved c =
    rw c.in_ok-push.ensures.items (IsAhead-push c.args.design.now.circuit c.args.order.now c.in_ok-past.past.items c.loop-net.ahead.items c.loop-net.net-index
    c.past_gates.result (omega (arith, c.loop-net-test.true)) c.in_ok-past.ensures.past c.loop-net.invariant
    (rw c.as_slice.ensures.value at c.past_gates.ensures.each) (rw c.as_slice.ensures.value at c.past_gates.ensures.there))

pub returns : goal.returns
returns c =
    let all : c.loop-net.net-index ≡ length c.args.order.now = omega arith in
    subst (λ n. IsAhead c.args.design.now.circuit c.args.order.now n c.loop-net.ahead.items) all c.loop-net.invariant
