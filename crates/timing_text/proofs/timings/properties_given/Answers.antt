use Rattle.std.proofs.Common.{sym, ap, ◌∙◌, arith}
use Rattle.std.specs.Result.{result_map_both}
use Rattle.timing_text.specs.GivenSoFar.{given_to_nets}
use Rattle.timing_text.proofs.GivenProperties.{Given-first, Given-length, Given-more, Given-pin, Given-stops, properties_of-lines}
use Rattle.timing_text.proofs.timings.properties_given.Goals as goal

pub loop-line-init : goal.loop-line-init
loop-line-init c =
    rw (c.into_iter-line-iterator.ensures.into_iter_gives, c.version_and_lines-version.ensures.lines)
    (Given-first _ c.args.netlist.now _ _ c.in_ok-given.ensures.given)

pub index_mut-net-requires : goal.index_mut-net-requires
index_mut-net-requires c = omega (arith, Given-length c.loop-line.invariant, c.in_ok-next.ensures.net)

pub has-requires : goal.has-requires
has-requires c =
    Given-pin c.loop-line.invariant c.in_ok-next.ensures.net c.index_mut-net.ensures.value c.in_ok-next.next.property c.in_ok-next.ensures.pin

pub add-requires : goal.add-requires
add-requires c =
    Given-pin c.loop-line.invariant c.in_ok-next.ensures.net c.index_mut-net.ensures.value c.in_ok-next.next.property c.in_ok-next.ensures.pin

pub returns-then-has-clause-given : goal.returns-then-has-clause-given
returns-then-has-clause-given c = λ _.
    let netlist = c.args.netlist.now in
    let next = c.in_ok-next in
    let stops = Given-stops c.loop-line.invariant next.ensures.net c.index_mut-net.ensures.value next.next.property next.ensures.pin
    c.in-Some.ensures.steps next.ensures.property (sym c.has.ensures ∙ c.if-has.true) in
    ap (result_map_both (given_to_nets netlist) (λ fault. fault))
    (sym (properties_of-lines netlist c.args.text.now c.version_and_lines-version.result.0 c.if-text-gt-LONGEST_TEXT.false c.version_and_lines-version.ensures.version ∙ stops))

pub loop-line-preserved : goal.loop-line-preserved
loop-line-preserved c =
    let next = c.in_ok-next in
    Given-more c.loop-line.invariant next.ensures.net c.index_mut-net.ensures.value next.next.property next.ensures.pin
    c.in-Some.ensures.steps next.ensures.property c.in_ok-given.ensures.well_formed.distinct (sym c.has.ensures ∙ c.if-has.false) _ c.add.ensures
