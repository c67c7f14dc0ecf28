use Rattle.std.proofs.Common.{◌≡◌, ℕ, slice_index, ap, ◌∙◌, subst, arith}
use Rattle.std.proofs.lemmas.List.{get_or_default}
use Rattle.cmb_channels.specs.Waiting.{HasRoom}
use Rattle.cmb_channels.proofs.WaitingLemmas.{lists_in-same, HasRoom-set}
use Rattle.cmb_channels.proofs.queues.filling.reserve_places.Goals as goal

pub returns-in_err-reserve-clause-lists : goal.returns-in_err-reserve-clause-lists
returns-in_err-reserve-clause-lists c =
    lists_in-same c.loop-pin.queues.items _ _ _ c.index_mut.ensures.value c.reserve.ensures.items ∙ c.loop-pin.invariant.lists

pub loop-pin-preserved : goal.loop-pin-preserved
loop-pin-preserved c = record {
  lists = lists_in-same c.loop-pin.queues.items _ _ _ c.index_mut.ensures.value c.reserve.ensures.items ∙ c.loop-pin.invariant.lists;
  room = λ k below.
      HasRoom-set c.loop-pin.queues.items _ (slice_index c.args.pins.now k) c.reserve.new.self (omega (arith, c.in_ok-reserve.ensures.ok))
      (λ differs. c.loop-pin.invariant.room k
      (let other : k ≡ c.loop-pin.pin-index → ⊥ = λ same. differs (ap (λ n. slice_index c.args.pins.now n) same) in omega arith));
}

pub returns-clause-ok : goal.returns-clause-ok
returns-clause-ok c = λ k d within.
    subst (λ (pin : ℕ). HasRoom c.loop-pin.queues.items pin) (get_or_default c.args.pins.now k 0 d within)
    (c.loop-pin.invariant.room k (omega arith))
