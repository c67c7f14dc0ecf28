-- A run that is accepted ends complete.
use Rattle.std.proofs.Common.{◌≡◌, ℕ, ◌+◌, ◌<◌, List, [], length, All, Result, Ok, Err, OnOk, IsOkAnd, refl, ap, subst, ◌∙◌, arith}
use Rattle.std.proofs.lemmas.List.Elements.{All-nil}
use Rattle.texts.specs.Text.{◌>>=◌}
use Rattle.design.specs.Circuit.{Circuit}
use Rattle.design.specs.Design.{DesignView, IsDesign}
use Rattle.design.proofs.CallerLemmas.{IsCircuit-from_IsDesign, length-circuit}
use Rattle.cmb_events.specs.declared.event.Event.{Event}
use Rattle.cmb_events.specs.declared.schedule_fault.ScheduleFault.{ScheduleFault}
use Rattle.cmb_events.specs.Schedule.{Exists}
use Rattle.cmb_events.proofs.CallerLemmas.{events_of-exist, picks_of-exist}
use Rattle.cmb_kernel.specs.State.{frontier_at, least_frontier, most_rounds, started}
use Rattle.cmb_kernel.specs.Step.{steps}
use Rattle.cmb_kernel.proofs.CallerLemmas.{completed_sound, frontier_when_complete, least_frontier-le, rounds_end, started_frontier, started_sound, steps_sound}
use Rattle.prepared_runs.specs.declared.fault.SimFault.{SimFault}
use Rattle.prepared_runs.specs.Events.{PicksView, nothing, text, seeded, events_of_picks}
use Rattle.prepared_runs.specs.Faults.{sim_of_schedule}
use Rattle.prepared_runs.specs.Prepared.{RunView, run_of_source}
use Rattle.prepared_runs.specs.Source.{SourceView, design_of_source, or_fault}
use Rattle.prepared_runs.proofs.CallerLemmas.{ready_of_run}
use Rattle.kernel_runs.specs.Simulated.{completed_run, known_after_events, state_after_events, IsCompleted}

-- ---- the events of a run exist

picked_exist : (circuit : Circuit) (picks : PicksView) (events : List Event) → 0 < length circuit → events_of_picks circuit picks ≡ Ok events →
    All (Exists circuit) events
unfolding events_of_picks
picked_exist circuit nothing events some is = let none : [] ≡ events = cc in subst (All (Exists circuit)) none (All-nil (Exists circuit))
picked_exist circuit (text bytes) events some is = events_of-exist circuit bytes events is
picked_exist circuit (seeded seed picks) events some is = picks_of-exist circuit seed picks events some is

module _ (source : SourceView) (ticks : ℕ) (run : RunView) where
  events_exist : run_of_source source ticks ≡ Ok run → 0 < length run.design.circuit → All (Exists run.design.circuit) run.events
  unfolding run_of_source
  events_exist = go (design_of_source source ticks)
    where
      run_with : ℕ × DesignView → List Event → RunView
      run_with ready events = record { horizon = ready.0; design = ready.1; events = events }

      made : (ready : ℕ × DesignView) (events : Result (List Event) ScheduleFault) → events_of_picks (ready.1).circuit source.picks ≡ events →
          (or_fault sim_of_schedule events >>= λ all. Ok (run_with ready all)) ≡ Ok run → 0 < length run.design.circuit →
          All (Exists run.design.circuit) run.events
      made ready (Ok all) are is some =
          let same : run_with ready all ≡ run = cc in
          subst (λ (r : RunView). 0 < length r.design.circuit → All (Exists r.design.circuit) r.events) same
          (λ some. picked_exist (ready.1).circuit source.picks all some are) some
      made ready (Err fault) are is some = absurd (cc)

      go : (result : Result (ℕ × DesignView) SimFault) →
          (result >>= λ ready. or_fault sim_of_schedule (events_of_picks (ready.1).circuit source.picks) >>= λ all. Ok (run_with ready all)) ≡ Ok run →
          0 < length run.design.circuit → All (Exists run.design.circuit) run.events
      go (Ok ready) is some = made ready (events_of_picks (ready.1).circuit source.picks) refl is some
      go (Err fault) is some = absurd (cc)

-- a design has a net
some_net : (design : DesignView) → IsDesign design → 0 < length design.circuit
some_net design ok = omega (arith, length-circuit design ok, ok.netlist.some_net)

-- ---- what is known after its events

-- before any event no net knows a tick
nothing_known : (design : DesignView) → IsDesign design → (end : ℕ) → least_frontier end (started design.circuit end) ≡ 0
nothing_known design ok end =
    let first = started design.circuit end in
    let low = least_frontier-le design.circuit end first (started_sound design.circuit end) 0 (some_net design ok) in
    let none : frontier_at first 0 ≡ 0 = started_frontier end design.circuit 0 in
    omega (arith, low, none)

-- so a run without events knows none before it advances
pub no_events_known : (run : RunView) → IsDesign run.design → run.events ≡ [] → known_after_events run ≡ 0
no_events_known run ok none =
    let end = run.horizon + 1 in
    ap (λ events. least_frontier end (steps (started run.design.circuit end) events)) none ∙ nothing_known run.design ok end

-- ---- so it ends complete

pub IsCompleted-run_of_source : (source : SourceView) (ticks : ℕ) (run : RunView) → run_of_source source ticks ≡ Ok run → IsCompleted run
IsCompleted-run_of_source source ticks run made =
    let design = (ready_of_run source ticks run made).design in
    let circuit = run.design.circuit in
    let end = run.horizon + 1 in
    let ok = IsCircuit-from_IsDesign run.design design in
    let exist = events_exist source ticks run made (some_net run.design design) in
    let reached = steps_sound circuit ok end (started circuit end) run.events (started_sound circuit end) exist in
    let complete = rounds_end circuit ok end (state_after_events run) reached in
    record {
      complete = complete;
      known = frontier_when_complete circuit end (completed_run run)
          (completed_sound circuit ok end (most_rounds end circuit) (state_after_events run) reached) complete;
    }

-- so does the run that a source makes, whatever a call answers
pub run_completes : (source : SourceView) (ticks : ℕ) (run : RunView) → run_of_source source ticks ≡ Ok run →
    IsOkAnd (run_of_source source ticks) IsCompleted
run_completes source ticks run made = rw made (IsCompleted-run_of_source source ticks run made)

pub run_completes_on : {A F : Type 0} (source : SourceView) (ticks : ℕ) (run : RunView) (result : Result A F) → run_of_source source ticks ≡ Ok run →
    OnOk result (IsOkAnd (run_of_source source ticks) IsCompleted)
run_completes_on source ticks run (Ok value) made = run_completes source ticks run made
run_completes_on source ticks run (Err fault) made = tt
