use Rattle.std.proofs.Common.{◌≡◌, ℕ, List, ◌∷◌, [], get_or, refl, sym, ◌∙◌, ap, subst, arith, true≢false, All}
use Rattle.std.specs.Option.{is_some}
use Rattle.std.proofs.lemmas.List.{take_all}
use Rattle.std.proofs.lemmas.List.Elements.{All-more, Contains-get_or}
use Rattle.design.proofs.CallerLemmas.{length-circuit}
use Rattle.netlist.specs.Netlist.{NetlistView, name_at}
use Rattle.fanin_cone.specs.Cone.{IsConeOf}
use Rattle.fanin_cone.specs.Agreement.{AgreesAt}
use Rattle.fanin_cone.proofs.Agreeing.{AgreesOn-all, AgreesAt-of}
use Rattle.fanin_cone.proofs.NetOf.{net_of-none, net_of-some}
use Rattle.fanin_cone.proofs.agreement.agree.Goals as goal

pub returns-in_default-clause-found : goal.returns-in_default-clause-found
returns-in_default-clause-found c = (
  λ e. absurd (true≢false (sym e)),
  λ both. sym (ap is_some (net_of-none c.args.first.now c.args.name.now (sym c.in_default.ensures.net))) ∙ both.0,
)

pub returns-in_default-find-clause-found : goal.returns-in_default-find-clause-found
returns-in_default-find-clause-found c = (
  λ e. absurd (true≢false (sym e)),
  λ both. sym (ap is_some (net_of-none c.args.second.now c.args.name.now (sym c.in_default-find.ensures.net))) ∙ both.1,
)

-- the cone that the loop goes over
cone_is : (netlist : NetlistView) (net : ℕ) (items numbers : List ℕ) → numbers ≡ items → IsConeOf netlist (name_at netlist net ∷ []) items →
    IsConeOf netlist (name_at netlist net ∷ []) numbers
cone_is netlist net items numbers e cone = subst (IsConeOf netlist (name_at netlist net ∷ [])) (sym e) cone

pub agrees_at-requires-clause-net : goal.agrees_at-requires-clause-net
agrees_at-requires-clause-net c =
    let cone = c.deref-net-items.result.now in
    let at = Contains-get_or cone c.loop-net.net-index 0 c.loop-net-test.true in
    let is = ((cone_is c.args.first.now.netlist c.in-Some.net c.in_ok-cone.field-0.items c.deref-net-items.result.now c.deref-net-items.ensures.value c.in_ok-cone.ensures).nets (get_or cone c.loop-net.net-index 0)).0 at in
    omega (arith, is.0, length-circuit c.args.first.now c.nets.ensures.well_formed)

pub returns-then-not-agrees_at-clause-found : goal.returns-then-not-agrees_at-clause-found
returns-then-not-agrees_at-clause-found c = (
  λ e. (
    net_of-some c.args.first.now c.nets.ensures.well_formed c.args.name.now c.in-Some.net (sym c.in-Some.ensures.named),
    net_of-some c.args.second.now c.nets-2.ensures.well_formed c.args.name.now c.in-Some-find.other (sym c.in-Some-find.ensures.named),
  ),
  λ both. refl,
)

pub returns-clause-found : goal.returns-clause-found
returns-clause-found c = (
  λ e. (
    net_of-some c.args.first.now c.nets.ensures.well_formed c.args.name.now c.in-Some.net (sym c.in-Some.ensures.named),
    net_of-some c.args.second.now c.nets-2.ensures.well_formed c.args.name.now c.in-Some-find.other (sym c.in-Some-find.ensures.named),
  ),
  λ both. refl,
)

pub returns-then-not-agrees_at-clause-agrees : goal.returns-then-not-agrees_at-clause-agrees
returns-then-not-agrees_at-clause-agrees c = (
  λ e. absurd (true≢false (sym e)),
  λ agrees.
      let cone = c.deref-net-items.result.now in
      let at = Contains-get_or cone c.loop-net.net-index 0 c.loop-net-test.true in
      let here = AgreesAt-of c.args.first.now c.args.second.now c.nets.ensures.well_formed c.args.horizon c.args.name.now c.in-Some.net cone
      (sym c.in-Some.ensures.named) (cone_is c.args.first.now.netlist c.in-Some.net c.in_ok-cone.field-0.items c.deref-net-items.result.now c.deref-net-items.ensures.value c.in_ok-cone.ensures) agrees (get_or cone c.loop-net.net-index 0) at in
      sym c.if-not-agrees_at.true ∙ c.agrees_at.ensures.1 here,
)

pub loop-net-preserved : goal.loop-net-preserved
loop-net-preserved c =
    All-more (λ net. AgreesAt c.args.first.now c.args.second.now c.args.horizon (name_at c.args.first.now.netlist net))
    c.deref-net-items.result.now c.loop-net.net-index 0 c.loop-net-test.true c.loop-net.invariant (c.agrees_at.ensures.0 c.if-not-agrees_at.false)

pub returns-clause-agrees : goal.returns-clause-agrees
returns-clause-agrees c = (
  λ e. AgreesOn-all c.args.first.now c.args.second.now c.nets.ensures.well_formed c.args.horizon c.args.name.now c.in-Some.net c.deref-net-items.result.now
      (sym c.in-Some.ensures.named) (cone_is c.args.first.now.netlist c.in-Some.net c.in_ok-cone.field-0.items c.deref-net-items.result.now c.deref-net-items.ensures.value c.in_ok-cone.ensures)
      (subst (All (λ net. AgreesAt c.args.first.now c.args.second.now c.args.horizon (name_at c.args.first.now.netlist net)))
      (take_all c.loop-net.net-index c.deref-net-items.result.now (omega (arith, c.loop-net-test.false))) c.loop-net.invariant),
  λ agrees. refl,
)
