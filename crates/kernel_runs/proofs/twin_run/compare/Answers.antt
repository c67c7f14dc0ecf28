use Rattle.std.proofs.Common.{◌≡◌, ◌+◌, ◌↔◌, IsTrue, [], ◌∷◌, sym, ◌∙◌}
use Rattle.std.proofs.lemmas.Result.{err_from_is_err_and, IfOk-at_ok}
use Rattle.logic3.specs.Wave.{wave_of}
use Rattle.design.specs.Equations.{value_of}
use Rattle.fanin_cone.specs.Agreement.{AgreesOn}
use Rattle.fanin_cone.specs.Cone.{InCone}
use Rattle.wave_diff.specs.declared.comparison.Side.TheVariants.{First, Second}
use Rattle.kernel_runs.specs.declared.twin_run.TwinAnswer.{TwinAnswer}
use Rattle.prepared_runs.specs.Prepared.{seen_run}
use Rattle.kernel_runs.specs.Twins.{twins_in}
use Rattle.kernel_runs.proofs.Twins.{IsComparison-made, IsTwinRefusal-net, same_waves, twins_in-bad_net, twins_in-bad_other_net, twins_in-good}
use Rattle.prepared_runs.proofs.CallerLemmas.{below_circuit}
use Rattle.kernel_runs.proofs.twin_run.compare.Goals as goal

pub returns-in_err-net-clause-err : goal.returns-in_err-net-clause-err
returns-in_err-net-clause-err c =
    let p = err_from_is_err_and c.from_residual.result c.from_residual.ensures.1 in
    let one = seen_run c.args.one.now in
    let other = seen_run c.args.other.now in
    let name = c.args.name.now in
    let lacks = sym c.net_named.ensures ∙ c.in_err-net.ensures.err in
    rw (p.1, p.2) (IsTwinRefusal-net (twins_in one other name) First _ c.in_err-net.ensures.side _ lacks (twins_in-bad_net one other name _ lacks))

pub returns-in_err-other_net-clause-err : goal.returns-in_err-other_net-clause-err
returns-in_err-other_net-clause-err c =
    let p = err_from_is_err_and c.from_residual-in_err-other_net.result c.from_residual-in_err-other_net.ensures.1 in
    let one = seen_run c.args.one.now in
    let other = seen_run c.args.other.now in
    let name = c.args.name.now in
    let found = sym c.net_named.ensures ∙ c.in_ok-net.ensures.ok in
    let lacks = sym c.net_named-2.ensures ∙ c.in_err-other_net.ensures.err in
    rw (p.1, p.2) (IsTwinRefusal-net (twins_in one other name) Second _ c.in_err-other_net.ensures.side _ lacks
    (twins_in-bad_other_net one other name _ found _ lacks))

pub wave_at_end-requires-clause-net : goal.wave_at_end-requires-clause-net
wave_at_end-requires-clause-net c =
    below_circuit c.args.one.now.design c.args.name.now c.in_ok-net.net c.requires.first (sym c.net_named.ensures ∙ c.in_ok-net.ensures.ok)

pub wave_at_end-requires-2-clause-net : goal.wave_at_end-requires-2-clause-net
wave_at_end-requires-2-clause-net c =
    below_circuit c.args.other.now.design c.args.name.now c.in_ok-other_net.other_net c.requires.second
    (sym c.net_named-2.ensures ∙ c.in_ok-other_net.ensures.ok)

pub returns-clause-ok : goal.returns-clause-ok
returns-clause-ok c =
    let name = c.args.name.now in
    let found = sym c.net_named.ensures ∙ c.in_ok-net.ensures.ok in
    let other_found = sym c.net_named-2.ensures ∙ c.in_ok-other_net.ensures.ok in
    let one = c.args.one.now in
    let other = c.args.other.now in
    let agree = IfOk-at_ok (λ says. IsTrue says ↔ AgreesOn one.design other.design (InCone one.design.netlist (name ∷ [])) one.horizon)
    c.in_ok-agree.ensures.ok c.is_agreed.ensures.ok in
    let first_is = IfOk-at_ok (λ wave. wave ≡ wave_of (value_of one.design.circuit c.in_ok-net.net) 0 (one.horizon + 1))
    c.in_ok-first.ensures.ok c.wave_at_end.ensures.ok in
    let second_is = IfOk-at_ok (λ wave. wave ≡ wave_of (value_of other.design.circuit c.in_ok-other_net.other_net) 0 (other.horizon + 1))
    c.in_ok-second.ensures.ok c.wave_at_end-2.ensures.ok in
    rw (twins_in-good (seen_run one) (seen_run other) name _ found _ other_found)
    (IsComparison-made one other c.requires name c.in_ok-net.net c.in_ok-other_net.other_net
    (record { agree = c.in_ok-agree.agree; first = c.in_ok-first.first; second = c.in_ok-second.second }) agree first_is second_is)

pub returns-clause-isolated : goal.returns-clause-isolated
returns-clause-isolated c =
    let name = c.args.name.now in
    let found = sym c.net_named.ensures ∙ c.in_ok-net.ensures.ok in
    let other_found = sym c.net_named-2.ensures ∙ c.in_ok-other_net.ensures.ok in
    let one = c.args.one.now in
    let other = c.args.other.now in
    let answer : TwinAnswer = record { agree = c.in_ok-agree.agree; first = c.in_ok-first.first; second = c.in_ok-second.second } in
    let agree = IfOk-at_ok (λ says. IsTrue says ↔ AgreesOn one.design other.design (InCone one.design.netlist (name ∷ [])) one.horizon)
    c.in_ok-agree.ensures.ok c.is_agreed.ensures.ok in
    let first_is = IfOk-at_ok (λ wave. wave ≡ wave_of (value_of one.design.circuit c.in_ok-net.net) 0 (one.horizon + 1))
    c.in_ok-first.ensures.ok c.wave_at_end.ensures.ok in
    let second_is = IfOk-at_ok (λ wave. wave ≡ wave_of (value_of other.design.circuit c.in_ok-other_net.other_net) 0 (other.horizon + 1))
    c.in_ok-second.ensures.ok c.wave_at_end-2.ensures.ok in
    let compared = IsComparison-made one other c.requires name c.in_ok-net.net c.in_ok-other_net.other_net answer agree first_is second_is in
    same_waves one other c.requires name c.in_ok-net.net c.in_ok-other_net.other_net answer found other_found compared
