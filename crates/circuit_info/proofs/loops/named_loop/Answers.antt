use Rattle.std.proofs.Common.{◌≡◌, Contains, false, sym, subst}
use Rattle.std.proofs.lemmas.Result.{IfOk-weaker}
use Rattle.netlist.specs.Marks.{is_seen}
use Rattle.circuit_info.specs.Loops.{IsNamedLoop}
use Rattle.circuit_info.specs.Known.{IsRestFrom}
use Rattle.circuit_info.proofs.Marks.{read_true, read_false}
use Rattle.circuit_info.proofs.Ways.{way_below, IsWay-on, IsNamedLoop-way}
use Rattle.circuit_info.proofs.loops.named_loop.Goals as goal

pub loop-passed-preserved : goal.loop-passed-preserved
loop-passed-preserved c =
    let new : is_seen c.loop-passed.passed.items c.loop-passed.net ≡ false =
    read_false c.loop-passed.passed.items c.loop-passed.net c.index.result.now c.index.ensures c.loop-passed-test.true in
    rw c.in_ok-push.ensures.items
    (IsWay-on c.args.netlist.now c.args.start c.loop-passed.passed.items c.loop-passed.way.items c.loop-passed.net c.loop-passed.invariant c.next-net.result new c.next-net.ensures)

pub rest_from-requires : goal.rest_from-requires
rest_from-requires c =
    let way = c.loop-passed.way.items in
    let below = way_below c.args.netlist.now c.args.start c.loop-passed.passed.items way c.loop-passed.net c.loop-passed.invariant in
    subst (λ way. Contains way c.loop-passed.net) (sym c.as_slice.ensures.value)
    ((c.loop-passed.invariant.passed_so c.loop-passed.net).0
    (read_true c.loop-passed.passed.items c.loop-passed.net c.index.result.now c.index.ensures c.loop-passed-test.false below))

pub returns : goal.returns
returns c =
    let way = c.loop-passed.way.items in
    IfOk-weaker c.rest_from.result (λ nets. IsRestFrom c.as_slice.result.now c.loop-passed.net nets.items) (λ nets. IsNamedLoop c.args.netlist.now nets.items)
    (λ nets rest. IsNamedLoop-way c.args.netlist.now c.args.start c.loop-passed.passed.items way c.loop-passed.net c.loop-passed.invariant c.requires.least nets.items
    (subst (λ way. IsRestFrom way c.loop-passed.net nets.items) c.as_slice.ensures.value rest))
    c.rest_from.ensures
