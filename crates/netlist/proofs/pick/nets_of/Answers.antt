use Rattle.std.proofs.Common.{◌∙◌}
use Rattle.netlist.proofs.pick.nets_of.Goals as goal

pub renumber-requires-clause-kept : goal.renumber-requires-clause-kept
renumber-requires-clause-kept c =
    rw (c.as_mut_slice.ensures.value ∙ c.in_ok-pins.ensures.ok ∙ c.pins_of.ensures) (c.requires.pins c.loop-number.number-index 0 c.loop-number-test.true)
