use Rattle.std.proofs.Common.{◌+◌, ◌≤◌, Option, None, Some, IfNone, length, arith}
use Rattle.design.specs.Circuit.{pin_count}
use Rattle.kernel_uses.proofs.Numbered.{all_useless}
use Rattle.kernel_uses.proofs.drawing.draw.Goals as goal

-- what follows where nothing was drawn
if_none : {A : Type 0} {P Q : Type 0} (drawn : Option A) → (P → Q) → IfNone drawn P → IfNone drawn Q
if_none None follows holds = follows holds
if_none (Some event) follows holds = tt

pub returns-clause-none : goal.returns-clause-none
returns-clause-none g c =
    let all : length c.args.kernel.now.circuit + pin_count c.args.kernel.now.circuit ≤ c.loop-number.number =
    (let nets = c.nets.ensures.count in let pins = c.pins.ensures.count in let end = c.loop-number-test.false in omega (arith, nets, pins, end)) in
    if_none c.loop-number.drawn (all_useless c.args.kernel.now.circuit c.args.kernel.now.state c.loop-number.number all)
    c.loop-number.invariant.none
