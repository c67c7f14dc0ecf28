-- The answer to a table of frontiers, step by step.
use Rattle.std.proofs.Common.{◌≡◌, ℕ, ◌+◌, List, IsTrue, Ok, Err, refl}
use Rattle.cmb_events.specs.declared.event.Event.{Event}
use Rattle.prepared_runs.specs.declared.fault.SimFault.{SimFault}
use Rattle.prepared_runs.specs.declared.view.Selection.{Selection}
use Rattle.prepared_runs.specs.Prepared.{RunView, run_of_source}
use Rattle.prepared_runs.specs.Source.{SourceView, if_known, knows_shown, shown_nets}
use Rattle.prepared_runs.proofs.CallerLemmas.{unknown_for}
use Rattle.event_trace.specs.Frontiers.{frontier_table, frontiers_of_run, frontiers_of_source}

pub frontiers_of_run-is : (show : Selection) (run : RunView) (events : List Event) (nets : List ℕ) → events ≡ run.events →
    nets ≡ shown_nets show run.design.netlist → frontier_table run.design.circuit (run.horizon + 1) events nets ≡ frontiers_of_run show run
unfolding frontiers_of_run
frontiers_of_run-is show run events nets same shown = λ i. frontier_table run.design.circuit (run.horizon + 1) (same i) (shown i)

module _ (source : SourceView) (ticks : ℕ) (show : Selection) where
  pub frontiers_of_source-bad : (fault : SimFault) → run_of_source source ticks ≡ Err fault → frontiers_of_source source ticks show ≡ Err fault
  unfolding frontiers_of_source
  frontiers_of_source-bad fault bad = rw bad refl

  module _ (run : RunView) (made : run_of_source source ticks ≡ Ok run) where
    pub frontiers_of_source-unknown : {A : Type 0} (shown : A) (fault : SimFault) → if_known show run.design.netlist shown ≡ Err fault →
        frontiers_of_source source ticks show ≡ Err fault
    unfolding frontiers_of_source
    frontiers_of_source-unknown shown fault unknown = rw made (unknown_for show run.design.netlist shown _ fault unknown)

    pub frontiers_of_source-good : IsTrue (knows_shown show run.design.netlist) →
        frontiers_of_source source ticks show ≡ Ok (frontiers_of_run show run)
    unfolding frontiers_of_source
    frontiers_of_source-good known = rw (made, known) refl
