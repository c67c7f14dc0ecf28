use Rattle.std.proofs.Common.{◌≡◌, ◌<◌, ◌≤◌, ℕ, List, ◌++◌, map, take, get_or, length, refl, ap, sym, ◌∙◌, arith}
use Rattle.std.proofs.lemmas.List.{length-map, length-take-le}
use Rattle.std.proofs.lemmas.List.Elements.{All-same, All-weaker}
use Rattle.logic3.specs.declared.change.Change.{Change}
use Rattle.logic3.specs.Wave.{changes_between}
use Rattle.logic3.proofs.CallerLemmas.{All-wave_of}
use Rattle.design.specs.Equations.{value_of}
use Rattle.cmb_kernel.specs.State.{floor_at}
use Rattle.vcd_dump.specs.Spans.{StreamView, with_part, with_parts}
use Rattle.vcd_dump.proofs.CallerLemmas.{with_parts-more}
use Rattle.kernel_runs.proofs.Drains.{IsDrain, DrainsTo-none, DrainsTo-trans, DrainsTo-drain, least_same, EachFloor-drain, drained_more, others_after, parts_more}
use Rattle.kernel_runs.proofs.draining.give_parts.Goals as goal

pub loop-net-init : goal.loop-net-init
loop-net-init c = record {
  drains = DrainsTo-none c.args.kernel.now c.requires.sound;
  floors = c.requires.floors;
  drained = λ k d inside. absurd (omega (arith, inside));
  others = λ net apart. refl;
  stream = sym c.requires.none_yet;
}

pub drain_below_into-requires-clause-known : goal.drain_below_into-requires-clause-known
drain_below_into-requires-clause-known c =
    let same = least_same c.args.kernel.now c.loop-net.kernel c.loop-net.invariant.drains in
    omega (arith, same, c.requires.known)

-- as many nets as are done
many : {A : Type 0} (f : ℕ → A) (nets : List ℕ) (i : ℕ) → i < length nets → length (map f (take i nets)) ≡ i
many f nets i inside = length-map (take i nets) f ∙ length-take-le i nets (omega (arith, inside))

pub part-requires-clause-next : goal.part-requires-clause-next
part-requires-clause-next c = λ running.
    let start = c.args.kernel.now in
    let i = c.loop-net.net-index in
    let inside : i < length c.args.nets.now = omega arith in
    let is = c.loop-net.invariant.stream in
    let given = ap (λ (s : StreamView). s.given) is in
    let nets = ap (λ (s : StreamView). s.nets) is in
    let done = many (λ net. changes_between (value_of start.circuit net) (floor_at start.state net) c.args.bound) c.args.nets.now i inside in
    omega (arith, given, nets, done, inside, c.requires.each)

pub part-requires-clause-within : goal.part-requires-clause-within
part-requires-clause-within c = λ running.
    let net = get_or c.args.nets.now c.loop-net.net-index 0 in
    let signal = value_of c.loop-net.kernel.circuit net in
    let from = floor_at c.loop-net.kernel.state net in
    let horizon = ap (λ (s : StreamView). s.horizon) c.loop-net.invariant.stream in
    let is = c.as_slice.ensures.value ∙ c.in_ok-drain_below_into.ensures.changes ∙ ap (λ cs. cs ++ changes_between signal from c.args.bound) c.clear.ensures.items in
    All-same (λ (change : Change). change.tick ≤ c.loop-net.stream.horizon) c.as_slice.result.now (changes_between signal from c.args.bound) is
    (All-weaker (λ (change : Change). change.tick < c.args.bound) (λ (change : Change). change.tick ≤ c.loop-net.stream.horizon)
    (λ change early. omega (arith, early, horizon, c.requires.end)) (changes_between signal from c.args.bound) (All-wave_of signal from c.args.bound))

pub loop-net-preserved : goal.loop-net-preserved
loop-net-preserved c =
    let start = c.args.kernel.now in
    let i = c.loop-net.net-index in
    let net = get_or c.args.nets.now i 0 in
    let inside : i < length c.args.nets.now = omega arith in
    let so_far = c.loop-net.invariant in
    let drain : IsDrain c.loop-net.kernel c.drain_below_into.new.kernel net c.args.bound = record {
      goes = c.in_ok-drain_below_into.ensures.ok;
      floor = c.in_ok-drain_below_into.ensures.floor;
      sound = c.in_ok-drain_below_into.ensures.sound;
    } in
    let taken = changes_between (value_of c.loop-net.kernel.circuit net) (floor_at c.loop-net.kernel.state net) c.args.bound in
    let untouched = so_far.others net (λ k h. c.requires.once k i 0 h inside) in
    let parts = map (λ n. changes_between (value_of start.circuit n) (floor_at start.state n) c.args.bound) (take i c.args.nets.now) in
    let more = parts_more start c.loop-net.kernel c.args.nets.now i c.args.bound parts c.drain_below_into.new.changes.items inside so_far.drains untouched
    (c.in_ok-drain_below_into.ensures.changes ∙ ap (λ cs. cs ++ taken) c.clear.ensures.items) refl in
    record {
      drains = DrainsTo-trans start c.loop-net.kernel c.drain_below_into.new.kernel so_far.drains (DrainsTo-drain drain);
      floors = EachFloor-drain drain so_far.floors;
      drained = drained_more drain c.args.nets.now i inside refl so_far.drained;
      others = others_after drain start c.args.nets.now i refl so_far.others;
      stream = c.in_ok-part.ensures.stream
          ∙ (λ k. with_part (so_far.stream k) (c.as_slice.ensures.value k))
          ∙ with_parts-more c.args.stream.now parts c.drain_below_into.new.changes.items c.requires.streams
          ∙ ap (with_parts c.args.stream.now) more;
    }
