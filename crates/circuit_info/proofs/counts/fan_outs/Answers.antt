use Rattle.std.proofs.Common.{◌≡◌, ℕ, ◌<◌, ◌≤◌, length, get_or, All, length-set, sym, ◌∙◌, subst, arith}
use Rattle.std.proofs.lemmas.List.{get_or_default}
use Rattle.netlist.specs.Netlist.{all_pins}
use Rattle.netlist.proofs.CallerLemmas.{pins_exist, pins_few}
use Rattle.circuit_info.proofs.Counting.{few_times, counted_more}
use Rattle.circuit_info.proofs.counts.fan_outs.Goals as goal
use Rattle.circuit_info.proofs.counts.fan_outs.Goals.{In-loop-pin}

-- the pins that are gone through are those of all nets
pins_are : (c : In-loop-pin) → c.deref-pin-items.result.now ≡ all_pins c.args.netlist.now.nets
pins_are c = c.deref-pin-items.ensures.value ∙ c.in_ok-pins.ensures

pin_below : (c : In-loop-pin) → get_or c.deref-pin-items.result.now c.loop-pin.pin-index 0 < length c.loop-pin.counts.items
pin_below c =
    rw c.loop-pin.invariant.size (subst (All (λ pin. pin < length c.args.netlist.now.nets)) (sym (pins_are c))
    (pins_exist c.args.netlist.now c.nets.ensures.well_formed) c.loop-pin.pin-index 0 c.loop-pin-test.true)

pub index_mut-requires : goal.index_mut-requires
index_mut-requires c = omega (arith, pin_below (goal.at.index_mut-requires c).In-loop-pin, c.loop-pin.counts.ok)

-- what is read there is how often that net stands at the pins before
read_at : (c : In-loop-pin) (count : ℕ) → count ≡ get_or c.loop-pin.counts.items (get_or c.deref-pin-items.result.now c.loop-pin.pin-index 0) count →
    count ≡ get_or c.loop-pin.counts.items (get_or c.deref-pin-items.result.now c.loop-pin.pin-index 0) 0
read_at c count read = read ∙ get_or_default c.loop-pin.counts.items _ count 0 (pin_below c)

pub overflow_add-index_mut : goal.overflow_add-index_mut
overflow_add-index_mut c =
    let at = goal.at.overflow_add-index_mut c in
    let pins = c.deref-pin-items.result.now in
    let i = c.loop-pin.pin-index in
    let within : i < length pins = c.loop-pin-test.true in
    let below = pin_below at.In-loop-pin in
    let few : length pins ≤ 1_000_000 = rw (pins_are at.In-loop-pin) (pins_few c.args.netlist.now c.nets.ensures.well_formed) in
    let is = read_at at.In-loop-pin c.index_mut.result.now c.index_mut.ensures.value
    ∙ c.loop-pin.invariant.each (get_or pins i 0) (subst (λ n. get_or pins i 0 < n) c.loop-pin.invariant.size below) in
    omega (arith, is, few, within, few_times (get_or pins i 0) pins i (omega (arith, within)))

pub loop-pin-preserved : goal.loop-pin-preserved
loop-pin-preserved c =
    let at = goal.at.loop-pin-preserved c in
    let size = c.loop-pin.invariant.size in
    rw (read_at at.In-loop-pin c.index_mut.result.now c.index_mut.ensures.value) (record {
      size = length-set c.loop-pin.counts.items _ _ ∙ size;
      each = λ net inside. counted_more c.loop-pin.counts.items c.deref-pin-items.result.now c.loop-pin.pin-index c.loop-pin-test.true (pin_below at.In-loop-pin)
          (λ other within. c.loop-pin.invariant.each other (subst (λ n. other < n) size within))
          net (subst (λ n. net < n) (sym size) inside);
    })
