-- The answer to a source by the kernel, step by step.
use Rattle.std.proofs.Common.{◌≡◌, ℕ, Bool, true, false, cond, IfOk, IsTrue, List, Result, Ok, Err, refl, ap}
use Rattle.texts.specs.Text.{◌>>=◌}
use Rattle.design.specs.Design.{DesignView}
use Rattle.cmb_events.specs.declared.event.Event.{Event}
use Rattle.prepared_runs.specs.declared.view.DumpView.{DumpView}
use Rattle.prepared_runs.specs.declared.fault.SimFault.{SimFault}
use Rattle.prepared_runs.specs.declared.fault.SimFault.TheVariants.{UnknownNet}
use Rattle.kernel_runs.specs.declared.simulation.Report.{Report}
use Rattle.prepared_runs.specs.Events.{events_of_picks}
use Rattle.prepared_runs.specs.Faults.{sim_of_schedule}
use Rattle.prepared_runs.specs.Source.{SourceView, design_of_source, dump_of_source, if_known, knows_shown, or_fault, dump_of_design}
use Rattle.prepared_runs.specs.Prepared.{RunView, run_of_source}
use Rattle.kernel_runs.specs.Simulated.{dump_in, report_of, simulated}
use Rattle.prepared_runs.proofs.CallerLemmas.{unknown_for}

-- what holds of any value holds of an answer's
pub on_any : {A F : Type 0} {P : A → Type 0} (result : Result A F) → ((value : A) → P value) → IfOk result P
on_any (Ok value) all = all value
on_any (Err fault) all = tt

module _ (source : SourceView) (view : DumpView) where
  -- a fault of the run is the answer
  pub simulated-bad : (fault : SimFault) → run_of_source source view.horizon ≡ Err fault → dump_in (simulated source view) ≡ Err fault
  unfolding simulated
  simulated-bad fault bad = rw bad refl

  module _ (run : RunView) (made : run_of_source source view.horizon ≡ Ok run) where
    -- so is a net that isn't there
    pub simulated-unknown : {A : Type 0} (shown : A) (fault : SimFault) → if_known view.show run.design.netlist shown ≡ Err fault →
        dump_in (simulated source view) ≡ Err fault
    unfolding simulated
    simulated-unknown shown fault unknown =
        rw made (ap dump_in (unknown_for view.show run.design.netlist shown (dump_of_design view run.horizon run.design, report_of run) fault unknown))

    pub simulated-good : IsTrue (knows_shown view.show run.design.netlist) →
        simulated source view ≡ Ok (dump_of_design view run.horizon run.design, report_of run)
    unfolding simulated
    simulated-good known = rw (made, known) refl

-- the dump of a run by the kernel is the one that needs no events
module _ (source : SourceView) (view : DumpView) (text : List ℕ) (report : Report) where
  abbrev picked : ℕ × DesignView → Result (List Event) SimFault
  picked ready = or_fault sim_of_schedule (events_of_picks (ready.1).circuit source.picks)

  abbrev run_with : ℕ × DesignView → List Event → RunView
  run_with ready events = record { horizon = ready.0; design = ready.1; events = events }

  abbrev answer_to : RunView → List ℕ × Report
  answer_to run = (dump_of_design view run.horizon run.design, report_of run)

  known_text : (known : Bool) (run : RunView) → cond known (Ok (answer_to run)) (Err UnknownNet) ≡ Ok (text, report) →
      cond known (Ok (dump_of_design view run.horizon run.design)) (Err UnknownNet) ≡ Ok text
  known_text true run is = ap dump_in is
  known_text false run is = absurd (cc)

  text_is : (ready : ℕ × DesignView) (events : Result (List Event) SimFault) →
      (events >>= (λ all. Ok (run_with ready all)) >>= λ run. if_known view.show run.design.netlist (answer_to run)) ≡ Ok (text, report) →
      if_known view.show (ready.1).netlist (dump_of_design view ready.0 ready.1) ≡ Ok text
  text_is ready (Ok events) is = known_text (knows_shown view.show (ready.1).netlist) (run_with ready events) is
  text_is ready (Err fault) is = absurd (cc)

  pub dump_of_source-simulated : simulated source view ≡ Ok (text, report) → dump_of_source source view ≡ Ok text
  unfolding simulated run_of_source dump_of_source
  dump_of_source-simulated = go (design_of_source source view.horizon)
    where
      go : (made : Result (ℕ × DesignView) SimFault) →
          (made >>= (λ ready. picked ready >>= λ events. Ok (run_with ready events)) >>= λ run. if_known view.show run.design.netlist (answer_to run)) ≡ Ok (text, report) →
          (made >>= λ ready. if_known view.show (ready.1).netlist (dump_of_design view ready.0 ready.1)) ≡ Ok text
      go (Ok ready) is = text_is ready (picked ready) is
      go (Err fault) is = cc
