use Rattle.std.proofs.Common.{◌+◌, drop, slice_index_or, ap, sym, ◌∙◌, arith}
use Rattle.std.proofs.lemmas.List.{length-set, drop_more}
use Rattle.cmb_channels.specs.Waiting.{appended, lists_in}
use Rattle.cmb_channels.proofs.WaitingLemmas.{lists_in-push, HasRoom-set_other}
use Rattle.cmb_channels.proofs.queues.filling.push_at_all.Goals as goal

pub loop-pin-preserved : goal.loop-pin-preserved
loop-pin-preserved c =
    let pins = c.args.pins.now in
    let queues = c.loop-pin.queues.items in
    let at = c.loop-pin.pin-index in
    let exists = c.requires.exist at 0 c.loop-pin-test.true in
    record {
      rest =
          ap (appended c.args.message (drop (at + 1) pins))
          (lists_in-push queues (slice_index_or pins at 0) c.args.message c.index_mut.result.now c.push_back_reserved.new.self
          (omega (arith, exists, c.loop-pin.invariant.same_length, c.args.queues.now.ok.0)) c.index_mut.ensures.value
          c.push_back_reserved.ensures.items)
          ∙ ap (λ left. appended c.args.message left (lists_in queues)) (sym (drop_more pins at 0 c.loop-pin-test.true))
          ∙ c.loop-pin.invariant.rest;
      same_length = length-set queues (slice_index_or pins at 0) c.push_back_reserved.new.self ∙ c.loop-pin.invariant.same_length;
      room = λ k after within.
          HasRoom-set_other queues (slice_index_or pins at 0) (slice_index_or pins k 0) c.push_back_reserved.new.self
          (λ same. omega (arith, same, c.requires.rising at k 0 (omega arith) within))
          (c.loop-pin.invariant.room k (omega arith) within);
    }
