use Rattle.std.proofs.Common.{◌≡◌, ◌<◌, All, IfSome, [], length, refl, sym, ap, subst, ◌∙◌, arith}
use Rattle.std.proofs.lemmas.Bool.Decides.{nat_tests}
use Rattle.std.proofs.lemmas.List.{nil_from_length}
use Rattle.netlist.specs.Netlist.{NetlistView}
use Rattle.design.proofs.CallerLemmas.{length-circuit}
use Rattle.fanin_cone.specs.Extract.{IsDesignOfCones}
use Rattle.prepared_runs.specs.Source.{signals_of}
use Rattle.prepared_runs.specs.Prepared.{seen_run}
use Rattle.kernel_runs.proofs.Completed.{no_events_known}
use Rattle.kernel_runs.proofs.ConesShown.{CanShow-outputs, signals_alone}
use Rattle.kernel_runs.proofs.alone.cones_of.Goals as goal
use Rattle.kernel_runs.proofs.alone.cones_of.Goals.{In_ok-nets}

pub cones_alone-requires-clause-nets : goal.cones_alone-requires-clause-nets
cones_alone-requires-clause-nets c =
    subst (λ nets. All (λ net. net < nets) c.as_slice.result.now) (length-circuit c.args.run.design c.requires.design)
    (subst (All (λ net. net < length c.args.run.design.circuit)) (sym c.as_slice.ensures.value) c.requires.there)

-- the design that is run
part : (c : In_ok-nets) → IsDesignOfCones c.args.run.design c.args.nets.items c.in-Some.design
part c =
    subst (λ nets. IsDesignOfCones c.args.run.design nets c.in-Some.design) c.as_slice.ensures.value
    (subst (λ found. IfSome found (IsDesignOfCones c.args.run.design c.as_slice.result.now)) c.in-Some.is c.in_ok-design.ensures.alone)

-- and the nets that it shows
shown : (c : In_ok-nets) → c.in_ok-nets.nets.items ≡ c.in-Some.design.netlist.outputs
shown c = c.in_ok-nets.ensures.items ∙ c.outputs.ensures.outputs ∙ ap (λ (n : NetlistView). n.outputs) c.netlist.ensures

pub returns-clause-can : goal.returns-clause-can
returns-clause-can c =
    let at = (goal.at.returns-clause-can c).In_ok-nets in
    CanShow-outputs c.in-Some.design (part at).second c.args.run.horizon c.empty.result c.in_ok-nets.nets.items c.empty.ensures (shown at)

pub returns-clause-same : goal.returns-clause-same
returns-clause-same c =
    let at = (goal.at.returns-clause-same c).In_ok-nets in
    record {
      horizon = refl;
      signals =
          ap (signals_of c.in-Some.design.circuit) (shown at)
          ∙ signals_alone c.args.run.design c.in-Some.design c.args.nets.items c.requires.there (part at);
    }

-- no events were picked
none_picked : (c : In_ok-nets) → c.args.run.schedule ≡ []
none_picked c =
    let none : length c.events.result.now ≡ 0 = grind (arith, nat_tests) in
    nil_from_length c.args.run.schedule (ap length (sym c.events.ensures) ∙ none)

pub returns-clause-known : goal.returns-clause-known
returns-clause-known c =
    let at = (goal.at.returns-clause-known c).In_ok-nets in
    no_events_known (record { horizon = c.args.run.horizon; design = c.in-Some.design; events = c.empty.result }) (part at).second c.empty.ensures
    ∙ sym (no_events_known (seen_run c.args.run) c.requires.design (none_picked at))

pub returns-clause-schedule : goal.returns-clause-schedule
returns-clause-schedule c = c.empty.ensures ∙ sym (none_picked (goal.at.returns-clause-schedule c).In_ok-nets)
