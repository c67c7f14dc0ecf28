use Rattle.std.proofs.Common.{◌≤◌, List, ℕ, length, All, sym, subst, arith}
use Rattle.design.proofs.Cutting.{ahead_within, segment_is, LieBetween-push}
use Rattle.design.proofs.segments.segments_of.Goals as goal

pub segment_at-segment-requires-clause-within : goal.segment_at-segment-requires-clause-within
segment_at-segment-requires-clause-within c =
    subst (λ (xs : List ℕ). All (λ end. end ≤ length xs) xs) (sym c.as_slice.ensures.value)
    (ahead_within c.args.design.now.circuit c.args.order.now c.in_ok-ahead.ahead.items c.in_ok-ahead.ensures)

pub loop-begin-preserved : goal.loop-begin-preserved
loop-begin-preserved c =
    let next = segment_is c.args.design.now.circuit c.args.order.now c.in_ok-ahead.ahead.items c.loop-begin.begin c.segment_at-segment.result c.in_ok-ahead.ensures
    (rw c.as_slice.ensures.value at c.segment_at-segment.ensures.loops) (rw c.as_slice.ensures.value at c.segment_at-segment.ensures.straight) in
    record {
      within = omega (arith, next.within, c.in_ok-ahead.ensures.size);
      lie = rw c.in_ok-push.ensures.items (LieBetween-push c.args.design.now.circuit c.args.order.now 0 c.loop-begin.segments.items c.loop-begin.begin
          c.segment_at-segment.result c.loop-begin.invariant.lie next);
    }
