use Rattle.std.proofs.Common.{◌<◌, get_or, length, refl, arith}
use Rattle.kernel_runs.proofs.Drains.{IsDrain, DrainsTo-none, DrainsTo-trans, DrainsTo-drain, least_same, EachFloor-drain, drained_more, stays_drained}
use Rattle.kernel_runs.proofs.draining.forget_below.Goals as goal

pub loop-net-init : goal.loop-net-init
loop-net-init c = record {
  drains = DrainsTo-none c.args.kernel.now c.requires.sound;
  floors = c.requires.floors;
  drained = λ k d inside. absurd (omega (arith, inside));
  stays = λ net drained. drained;
}

pub drain_below_into-requires-clause-known : goal.drain_below_into-requires-clause-known
drain_below_into-requires-clause-known c =
    let same = least_same c.args.kernel.now c.loop-net.kernel c.loop-net.invariant.drains in
    omega (arith, same, c.requires.known)

pub loop-net-preserved : goal.loop-net-preserved
loop-net-preserved c =
    let start = c.args.kernel.now in
    let i = c.loop-net.net-index in
    let net = get_or c.args.nets.now i 0 in
    let inside : i < length c.args.nets.now = omega arith in
    let so_far = c.loop-net.invariant in
    let drain : IsDrain c.loop-net.kernel c.drain_below_into.new.kernel net c.args.bound = record {
      goes = c.in_ok-drain_below_into.ensures.ok;
      floor = c.in_ok-drain_below_into.ensures.floor;
      sound = c.in_ok-drain_below_into.ensures.sound;
    } in
    record {
      drains = DrainsTo-trans start c.loop-net.kernel c.drain_below_into.new.kernel so_far.drains (DrainsTo-drain drain);
      floors = EachFloor-drain drain so_far.floors;
      drained = drained_more drain c.args.nets.now i inside refl so_far.drained;
      stays = λ other before. stays_drained drain other (so_far.stays other before);
    }
