-- What a run by the kernel reaches.
use Rattle.std.proofs.Common.{◌≡◌, ℕ, zero, suc, ◌+◌, ◌≤◌, Bool, true, false, cond, List, [], ◌∷◌, map, refl, ap, ◌∙◌, arith}
use Rattle.std.specs.Prelude.{slice_index_or}
use Rattle.logic3.specs.Wave.{wave_of}
use Rattle.design.specs.Equations.{value_of}
use Rattle.cmb_channels.specs.declared.message.Message.{Message}
use Rattle.cmb_events.specs.declared.event.Event.{Event}
use Rattle.cmb_events.specs.declared.event.Event.TheVariants.{Deliver, Advance}
use Rattle.cmb_kernel.specs.State.{KernelView, State, is_complete, most_rounds, started}
use Rattle.cmb_kernel.specs.Step.{after_deliver, completed_within, round_events, round_of, step, steps}
use Rattle.prepared_runs.specs.Shown.{waves_up_to}
use Rattle.prepared_runs.specs.Prepared.{RunView}
use Rattle.kernel_runs.specs.Simulated.{completed_run, kernel_after_events, report_from, report_of}

-- ---- no event of a schedule is refused

-- ---- the rounds

after_deliver_rounds : (state : State) (pin : ℕ) (messages : List Message) → (after_deliver state pin messages).counts.rounds ≡ state.counts.rounds
after_deliver_rounds state pin [] = refl
after_deliver_rounds state pin (message ∷ messages) = refl

-- events are no rounds
steps_rounds : (state : State) (events : List Event) → (steps state events).counts.rounds ≡ state.counts.rounds
steps_rounds state [] = refl
steps_rounds state (Deliver pin ∷ events) =
    steps_rounds (step state (Deliver pin)) events ∙ after_deliver_rounds state pin (slice_index_or state.lists pin [])
steps_rounds state (Advance net ∷ events) = steps_rounds (step state (Advance net)) events

completed_rounds : (count : ℕ) (state : State) → (completed_within count state).counts.rounds ≤ state.counts.rounds + count
completed_rounds zero state = omega arith
completed_rounds (suc count) state = go (is_complete state) (completed_rounds count (round_of state))
  where
    go : (complete : Bool) → (completed_within count (round_of state)).counts.rounds ≤ (round_of state).counts.rounds + count →
        (cond complete state (completed_within count (round_of state))).counts.rounds ≤ state.counts.rounds + suc count
    go true rest = omega arith
    go false rest = let same = steps_rounds state (round_events state) in omega arith

pub few_rounds : (run : RunView) → (report_of run).total.rounds ≤ most_rounds (run.horizon + 1) run.design.circuit
unfolding report_of
few_rounds run =
    let start = started run.design.circuit (run.horizon + 1) in
    let none = steps_rounds start run.events in
    let some = completed_rounds (most_rounds (run.horizon + 1) run.design.circuit) (steps start run.events) in
    omega arith

-- ---- the report

-- its total are the counts of the state in which the run ends
pub total_of : (run : RunView) → (report_of run).total ≡ (completed_run run).counts
unfolding report_of
total_of run = refl

-- the report from its kernel after the events is the run's
pub report_of-after : (run : RunView) (kernel : KernelView) → kernel ≡ kernel_after_events run →
    report_from kernel.end kernel.circuit kernel.state ≡ report_of run
unfolding report_of
report_of-after run kernel is = ap (λ (k : KernelView). report_from k.end k.circuit k.state) is

-- what a run's kernel knows at its end are the waveforms up to the horizon
pub waves_up_to-known : (run : RunView) (kernel : KernelView) → kernel.circuit ≡ run.design.circuit → kernel.end ≡ run.horizon + 1 → (nets : List ℕ) →
    map (λ net. wave_of (value_of kernel.circuit net) 0 kernel.end) nets ≡ waves_up_to run.design.circuit run.horizon nets
waves_up_to-known run kernel circuit end nets =
    ap (λ c. map (λ net. wave_of (value_of c net) 0 kernel.end) nets) circuit
    ∙ ap (λ to. map (λ net. wave_of (value_of run.design.circuit net) 0 to) nets) end
