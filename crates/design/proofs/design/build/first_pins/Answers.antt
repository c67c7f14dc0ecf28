use Rattle.std.proofs.Common.{◌≡◌, ◌+◌, length, get_or, ◌∷◌, [], ◌++◌, sym, ap, ◌∙◌, arith}
use Rattle.std.proofs.lemmas.List.{take_more, take_all}
use Rattle.design.specs.Joined.{first_pins_of}
use Rattle.design.proofs.Starts.{head-starts_from, length-first_pins_of, first_pins_of-more, first_pins_of-limit}
use Rattle.design.proofs.design.build.first_pins.Goals as goal
use Rattle.design.proofs.design.build.first_pins.Goals.{After-pins_of}

next_is : (c : After-pins_of) →
    c.loop-net.pin + length c.pins_of.result.now ≡ get_or (first_pins_of c.args.netlist.now) (c.loop-net.net + 1) 0
next_is c =
    ap (λ pin. pin + length c.pins_of.result.now) c.loop-net.invariant.next
    ∙ sym (first_pins_of-more c.args.netlist.now c.loop-net.net _ (omega (arith, c.nets-nets.ensures.nets)) c.pins_of.ensures)

pub loop-net-init : goal.loop-net-init
loop-net-init c = record { so_far = c.in_ok-starts.ensures.items; next = sym (head-starts_from 0 _ 0) }

pub overflow_add-pin : goal.overflow_add-pin
overflow_add-pin c =
    let limit = first_pins_of-limit c.args.netlist.now (c.loop-net.net + 1) c.nets-nets.ensures.well_formed (omega (arith, c.nets-nets.ensures.nets)) in
    omega (arith, next_is (goal.at.overflow_add-pin c).After-pins_of)

pub loop-net-preserved : goal.loop-net-preserved
loop-net-preserved c = record {
  so_far =
      c.in_ok-push.ensures.items
      ∙ (λ i. c.loop-net.invariant.so_far i ++ c.loop-net.invariant.next i ∷ [])
      ∙ sym (take_more (first_pins_of c.args.netlist.now) c.loop-net.net 0
      (omega (arith, c.nets-nets.ensures.nets, length-first_pins_of c.args.netlist.now)));
  next = next_is (goal.at.loop-net-preserved c).After-pins_of;
}

pub returns-clause-starts : goal.returns-clause-starts
returns-clause-starts c =
    let long = length-first_pins_of c.args.netlist.now in
    let end : c.loop-net.net + 1 ≡ length (first_pins_of c.args.netlist.now) = omega (arith, c.nets-nets.ensures.nets) in
    c.in_ok-push-2.ensures.items
    ∙ (λ i. c.loop-net.invariant.so_far i ++ c.loop-net.invariant.next i ∷ [])
    ∙ sym (take_more (first_pins_of c.args.netlist.now) c.loop-net.net 0 (omega arith))
    ∙ take_all (c.loop-net.net + 1) (first_pins_of c.args.netlist.now) (omega arith)
