use Rattle.std.proofs.Common.{rules, sym, true≢false}
use Rattle.std.specs.Iterator.Adapters.{zip_first, zip_second}
use Rattle.std.specs.Slice.Iter.{iter_rest}
use Rattle.fanin_cone.proofs.SameNames.{IsLeft-next, IsLeft-differ}
use Rattle.fanin_cone.proofs.agreement.has_same_names.Goals as goal

pub loop-pin-preserved : goal.loop-pin-preserved
loop-pin-preserved c = record {
  able = search rules;
  finite = search rules;
  left =
      let was = c.loop-pin.pin-iterator in
      let now = c.next.new.self in
      IsLeft-next c.args.first.now c.args.second.now c.requires.first c.requires.second c.args.pins.now c.args.others.now
      (iter_rest (zip_first was)) (iter_rest (zip_second was)) (iter_rest (zip_first now)) (iter_rest (zip_second now)) c.in-Some.pin.now c.in-Some.other.now
      c.name.result.now c.name-in-loop-pin.result.now
      c.loop-pin.invariant.left c.in-Some.ensures.steps.0 c.in-Some.ensures.steps.1 c.name.ensures c.name-in-loop-pin.ensures (sym c.if-ne.ensures);
}

pub returns-then-ne : goal.returns-then-ne
returns-then-ne c = (
  λ e. absurd (true≢false (sym e)),
  λ same.
      let was = c.loop-pin.pin-iterator in
      let now = c.next.new.self in
      IsLeft-differ c.args.first.now c.args.second.now c.requires.first c.requires.second c.args.pins.now c.args.others.now
      (iter_rest (zip_first was)) (iter_rest (zip_second was)) (iter_rest (zip_first now)) (iter_rest (zip_second now)) c.in-Some.pin.now c.in-Some.other.now
      c.name.result.now c.name-in-loop-pin.result.now
      c.loop-pin.invariant.left c.in-Some.ensures.steps.0 c.in-Some.ensures.steps.1 c.name.ensures c.name-in-loop-pin.ensures (sym c.if-ne.ensures) same,
)
