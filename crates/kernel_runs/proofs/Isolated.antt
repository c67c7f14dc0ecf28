-- Two runs that agree on a net's fan-in cone show the same for it.
use Rattle.std.proofs.Common.{◌≡◌, ℕ, ◌≤◌, List, [], ◌∷◌, Some, refl, sym, ap, subst, ◌∙◌, arith}
use Rattle.logic3.specs.declared.value.Value.{Value}
use Rattle.netlist.specs.Netlist.{net_named}
use Rattle.design.specs.Design.{DesignView, IsDesign}
use Rattle.design.specs.Equations.{value_of}
use Rattle.design.proofs.CallerLemmas.{length-circuit}
use Rattle.netlist.proofs.CallerLemmas.{net_at-named}
use Rattle.fanin_cone.specs.Agreement.{AgreesOn}
use Rattle.fanin_cone.specs.Cone.{InCone, start}
use Rattle.fanin_cone.proofs.CallerLemmas.{value_agrees, cone_closed}
use Rattle.vcd_dump.specs.Shown.{shown_value}
use Rattle.vcd_dump.specs.Traces.{name_of}
use Rattle.kernel_runs.specs.Isolation.{AcceptedRun, AgreeingRuns, EndsShowing, IsShown}
use Rattle.prepared_runs.specs.Source.{dump_of_design}
use Rattle.kernel_runs.proofs.Reports.{simulated-good}
use Rattle.prepared_runs.proofs.CallerLemmas.{ready_of_run, ShowsValues-run_of_source, name_is}
use Rattle.kernel_runs.proofs.Completed.{IsCompleted-run_of_source}
use Rattle.kernel_runs.proofs.Simulated.{few_rounds, total_of}

-- an accepted run ends complete, and shows for a shown net what its equations give
ends_showing : (run : AcceptedRun) (name : List ℕ) (net : ℕ) (signal : ℕ → Value) → IsShown run name net →
    ((tick : ℕ) → tick ≤ run.view.horizon → value_of run.run.design.circuit net tick ≡ signal tick) → EndsShowing run name signal
ends_showing accepted name net signal shown same =
    let run = accepted.run in
    let view = accepted.view in
    let design = (ready_of_run accepted.source view.horizon run accepted.accepted).design in
    let values = ShowsValues-run_of_source accepted.source view run accepted.accepted in
    let found = net_at-named run.design.netlist name net shown.number in
    let named : name_of run.design.circuit net ≡ name = name_is run.design design net (omega (arith, found.0, length-circuit run.design design)) ∙ found.1 in
    rw (simulated-good accepted.source view run accepted.accepted accepted.known) (record {
      complete = IsCompleted-run_of_source accepted.source view.horizon run accepted.accepted;
      counts = total_of run;
      rounds = few_rounds run;
      shows = λ tick due.
          subst (λ n. shown_value (dump_of_design view run.horizon run.design) n tick ≡ Some (value_of run.design.circuit net tick)) named
          (values net tick shown.shown due)
          ∙ ap (λ value. Some value) (same tick due);
    })

-- designs that agree on a net's cone give it the same values
pub same_values : (a b : DesignView) → IsDesign a → IsDesign b → (name : List ℕ) (m n horizon : ℕ) →
    AgreesOn a b (InCone a.netlist (name ∷ [])) horizon → net_named a.netlist name ≡ Some m → net_named b.netlist name ≡ Some n →
    (tick : ℕ) → tick ≤ horizon → value_of a.circuit m tick ≡ value_of b.circuit n tick
same_values a b ok_a ok_b name m n horizon agree number_a number_b tick due =
    let held : InCone a.netlist (name ∷ []) name = start name (0, omega arith, refl) in
    value_agrees a b ok_a ok_b (InCone a.netlist (name ∷ [])) horizon (cone_closed a.netlist (name ∷ [])) agree name m n tick held number_a number_b due

module _ (first second : AcceptedRun) (name : List ℕ) (net other_net : ℕ) (agreeing : AgreeingRuns first second name net other_net) where
  pub isolated_first : EndsShowing first name (value_of first.run.design.circuit net)
  isolated_first = ends_showing first name net (value_of first.run.design.circuit net) agreeing.first_shown (λ tick due. refl)

  pub isolated_second : EndsShowing second name (value_of first.run.design.circuit net)
  isolated_second =
      let ok_first = (ready_of_run first.source first.view.horizon first.run first.accepted).design in
      let ok_second = (ready_of_run second.source second.view.horizon second.run second.accepted).design in
      let one_horizon : first.view.horizon ≡ second.view.horizon = agreeing.horizon in
      let same : (tick : ℕ) → tick ≤ second.view.horizon → value_of first.run.design.circuit net tick ≡ value_of second.run.design.circuit other_net tick =
      λ tick due. same_values first.run.design second.run.design ok_first ok_second name net other_net first.view.horizon agreeing.agree
      agreeing.first_shown.number agreeing.second_shown.number tick (omega arith) in
      ends_showing second name other_net (value_of first.run.design.circuit net) agreeing.second_shown (λ tick due. sym (same tick due))
