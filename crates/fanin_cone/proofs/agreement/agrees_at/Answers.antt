use Rattle.std.proofs.Common.{arith, sym, true≢false}
use Rattle.design.proofs.CallerLemmas.{length-circuit}
use Rattle.netlist.proofs.CallerLemmas.{net_at-named}
use Rattle.fanin_cone.proofs.Agreeing.{AgreesAt-found, AgreesAt-none}
use Rattle.fanin_cone.proofs.agreement.agrees_at.Goals as goal

pub returns-in-Some : goal.returns-in-Some
returns-in-Some c =
    AgreesAt-found c.args.first.now c.args.second.now c.requires.first c.args.horizon c.args.net c.name.result.now c.name.ensures
    c.in-Some.other
    (omega (arith, (net_at-named c.args.second.now.netlist c.name.result.now c.in-Some.other (sym c.in-Some.ensures.named)).0, length-circuit c.args.second.now c.requires.second))
    c.in-Some.ensures.net c.is_same_net.result c.is_same_net.ensures

pub returns-in-None : goal.returns-in-None
returns-in-None c = (
  λ e. absurd (true≢false (sym e)),
  λ agrees. absurd (AgreesAt-none c.args.first.now c.args.second.now c.requires.first c.args.horizon c.args.net c.name.result.now c.name.ensures c.in-None.ensures.net agrees),
)
