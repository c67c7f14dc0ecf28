use Rattle.std.proofs.Common.{length, sym, ap, ◌∙◌, arith}
use Rattle.std.proofs.lemmas.List.{length-map, length-take-le, map_more}
use Rattle.netlist.specs.Netlist.{name_at}
use Rattle.netlist.proofs.Joined.{stored-within, name-stored}
use Rattle.netlist.proofs.Picked.{length-keep, position-names}
use Rattle.netlist.proofs.netlist.Netlist.names_of.Goals as goal

pub name-requires : goal.name-requires
name-requires c =
    stored-within _ _ c.self.invariant.joined.same_length c.args.self.now _ c.self.view_is _ (c.requires.nets c.loop-net.net-index 0 c.loop-net-test.true)

pub push-requires-clause-new : goal.push-requires-clause-new
push-requires-clause-new c =
    let within = c.requires.nets c.loop-net.net-index 0 c.loop-net-test.true in
    let known = rw c.self.view_is at c.self.invariant.joined.well_formed in
    rw (name-stored _ _ c.self.invariant.joined.same_length c.args.self.now _ c.self.view_is _ _ within c.name.ensures, c.loop-net.invariant)
    (position-names c.args.self.now known c.args.nets.now c.requires.rising c.requires.nets c.loop-net.net-index c.loop-net-test.true)

pub push-requires-clause-room : goal.push-requires-clause-room
push-requires-clause-room c =
    let known = rw c.self.view_is at c.self.invariant.joined.well_formed in
    omega (
      arith,
      ap length c.loop-net.invariant ∙ length-map _ (name_at c.args.self.now) ∙ length-take-le c.loop-net.net-index c.args.nets.now (omega arith),
      length-keep c.args.self.now known c.args.nets.now c.requires.rising c.requires.nets,
    )

pub loop-net-preserved : goal.loop-net-preserved
loop-net-preserved c =
    let within = c.requires.nets c.loop-net.net-index 0 c.loop-net-test.true in
    rw (c.in_ok-push.ensures.ok, c.loop-net.invariant, name-stored _ _ c.self.invariant.joined.same_length c.args.self.now _ c.self.view_is _ _ within c.name.ensures)
    (sym (map_more (name_at c.args.self.now) c.args.nets.now c.loop-net.net-index 0 c.loop-net-test.true))
