use Rattle.std.proofs.Common.{◌≡◌, ◌+◌, ◌-◌, leb, rules, sym, ◌∙◌, subst, arith}
use Rattle.std.specs.List.Sorted.{IsNonDecreasing}
use Rattle.std.proofs.lemmas.List.Sorted.{IsPartitionPoint-from_clause, IsPartitionedBy-leb}
use Rattle.design.specs.Pins.{net_of_pin}
use Rattle.design.proofs.Numbers.{net_of_pin_below}
use Rattle.design.proofs.Starts.{IsNonDecreasing-starts_from, net_of_pin-partition}
use Rattle.design.proofs.Stored.{starts_are, net_limit, well_formed}
use Rattle.design.proofs.design.Design.pin_net.Goals as goal
use Rattle.design.proofs.design.Design.pin_net.Goals.{After-partition_point-after}

found : (c : After-partition_point-after) → c.partition_point-after.result ≡ net_of_pin c.args.self.now.circuit c.args.pin + 1
found c =
    let starts = c.as_slice-first_pins.ensures.value ∙ starts_are c.self.invariant.joined c.self.view_is in
    let parted = IsPartitionedBy-leb (λ start. start) _ c.args.pin (subst IsNonDecreasing (sym starts) (IsNonDecreasing-starts_from 0 _)) in
    let point = IsPartitionPoint-from_clause (λ start. leb start c.args.pin) _ _ c.partition_point-after.ensures.partitioned parted (λ a r q k. search rules) in
    let net = net_of_pin-partition c.args.self.now.circuit 0 c.args.pin c.partition_point-after.result (omega arith) (omega (arith, c.requires))
    (rw starts at c.partition_point-after.ensures.bound) (rw starts at point) in
    let whole : c.args.pin - 0 ≡ c.args.pin = omega arith in
    omega (arith, rw whole at net)

pub overflow_sub-result : goal.overflow_sub-result
overflow_sub-result c = omega (arith, found c)

pub overflow_cast-result : goal.overflow_cast-result
overflow_cast-result c =
    omega (arith, found c, net_of_pin_below c.args.self.now.circuit c.args.pin c.requires, net_limit c.args.self.now (well_formed c.self.invariant.joined c.self.view_is))

pub returns-clause-net : goal.returns-clause-net
returns-clause-net c = omega (arith, found c)

pub returns-clause-within : goal.returns-clause-within
returns-clause-within c = omega (arith, found c, net_of_pin_below c.args.self.now.circuit c.args.pin c.requires)
