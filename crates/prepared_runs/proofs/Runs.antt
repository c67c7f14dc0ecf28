-- What an accepted run is made of.
use Rattle.std.proofs.Common.{◌≡◌, ℕ, List, Result, Ok, Err, ap}
use Rattle.texts.specs.Text.{◌>>=◌}
use Rattle.design.specs.Design.{DesignView}
use Rattle.cmb_events.specs.declared.event.Event.{Event}
use Rattle.prepared_runs.specs.declared.fault.SimFault.{SimFault}
use Rattle.prepared_runs.specs.declared.view.DumpView.{DumpView}
use Rattle.prepared_runs.specs.Events.{events_of_picks}
use Rattle.prepared_runs.specs.Faults.{sim_of_schedule}
use Rattle.prepared_runs.specs.Source.{SourceView, design_of_source, or_fault, dump_of_design}
use Rattle.prepared_runs.specs.Prepared.{RunView, run_of_source}
use Rattle.prepared_runs.specs.Viewed.{ShowsValues}
use Rattle.prepared_runs.proofs.Viewed.{IsReady, IsReady-design_of_source, ShowsValues-design_of_source}

-- it has the design of its source
pub design_of_run : (source : SourceView) (ticks : ℕ) (run : RunView) → run_of_source source ticks ≡ Ok run →
    design_of_source source ticks ≡ Ok (run.horizon, run.design)
unfolding run_of_source
design_of_run source ticks run = go (design_of_source source ticks)
  where
    run_with : ℕ × DesignView → List Event → RunView
    run_with ready events = record { horizon = ready.0; design = ready.1; events = events }

    ready_is : (ready : ℕ × DesignView) (events : Result (List Event) SimFault) → (events >>= λ all. Ok (run_with ready all)) ≡ Ok run →
        ready ≡ (run.horizon, run.design)
    ready_is ready (Ok all) e =
        let same : run_with ready all ≡ run = cc in ap (λ (r : RunView). (r.horizon, r.design)) same
    ready_is ready (Err fault) e = cc

    go : (made : Result (ℕ × DesignView) SimFault) →
        (made >>= λ ready. or_fault sim_of_schedule (events_of_picks (ready.1).circuit source.picks) >>= λ all. Ok (run_with ready all)) ≡ Ok run →
        made ≡ Ok (run.horizon, run.design)
    go (Ok ready) e = ap (λ r. Ok r) (ready_is ready (or_fault sim_of_schedule (events_of_picks (ready.1).circuit source.picks)) e)
    go (Err fault) e = cc

-- so its horizon is the one asked for, and its design is one
pub ready_of_run : (source : SourceView) (ticks : ℕ) (run : RunView) → run_of_source source ticks ≡ Ok run → IsReady ticks (run.horizon, run.design)
ready_of_run source ticks run accepted = IsReady-design_of_source source ticks (run.horizon, run.design) (design_of_run source ticks run accepted)

-- and its dump shows the design's values
pub ShowsValues-run_of_source : (source : SourceView) (view : DumpView) (run : RunView) → run_of_source source view.horizon ≡ Ok run →
    ShowsValues view run.design (dump_of_design view run.horizon run.design)
ShowsValues-run_of_source source view run accepted =
    ShowsValues-design_of_source source view run.horizon run.design (design_of_run source view.horizon run accepted)
