use Rattle.std.proofs.Common.{◌≡◌, nat_lt, rules, arith}
use Rattle.std.proofs.lemmas.List.Sorted.{IsPartitionPoint-from_clause, IsPartitionedBy-ltb}
use Rattle.netlist.specs.Pick.{place_in}
use Rattle.logic3.proofs.CallerLemmas.{RisesBy-ascends}
use Rattle.netlist.proofs.Rising.{place_in-le, place_in-partition}
use Rattle.netlist.proofs.pick.place_in.Goals as goal
use Rattle.netlist.proofs.pick.place_in.Goals.{After-partition_point}

found : (c : After-partition_point) → c.partition_point.result ≡ place_in c.args.keep.now c.args.number
found c =
    let parted = IsPartitionedBy-ltb (λ kept. kept) _ c.args.number (RisesBy-ascends (λ kept. kept) _ c.requires.rising) in
    let point = IsPartitionPoint-from_clause (λ kept. nat_lt kept c.args.number) _ _ c.partition_point.ensures.partitioned parted (λ a r q k. search rules) in
    place_in-partition _ c.requires.rising c.args.number c.requires.kept c.partition_point.result c.partition_point.ensures.bound point

pub overflow_cast-result : goal.overflow_cast-result
overflow_cast-result c = omega (arith, found c, place_in-le _ c.requires.rising c.args.number c.requires.kept, c.ranges.number.fits)

pub returns : goal.returns
returns c = found c
