-- What complete runs show hangs on no order of events.
use Rattle.std.proofs.Common.{◌≡◌, ℕ, zero, suc, Bool, true, false, cond, List, map, length, refl, ap, sym, ◌∙◌}
use Rattle.std.specs.List.{All, range_with_len}
use Rattle.logic3.specs.Wave.{wave_of}
use Rattle.design.specs.Circuit.{Circuit, IsCircuit}
use Rattle.design.specs.Equations.{value_of}
use Rattle.cmb_events.specs.declared.event.Event.{Event}
use Rattle.cmb_events.specs.Schedule.{Exists}
use Rattle.cmb_kernel.specs.State.{State, floor_at, most_rounds, IsComplete, is_complete, waves_in}
use Rattle.cmb_kernel.specs.Step.{steps, round_of, rounds, completed_within}
use Rattle.cmb_kernel.specs.Sound.{IsSound}
use Rattle.cmb_kernel.proofs.Soundness.{steps_sound}
use Rattle.cmb_kernel.proofs.LeastFrontier.{round_sound}
use Rattle.cmb_kernel.proofs.Completion.{is_complete-true}
use Rattle.cmb_kernel.proofs.Enough.{most_rounds_complete}
use Rattle.cmb_kernel.proofs.Mixed.{completed_floor, steps_floor}
use Rattle.cmb_kernel.proofs.Running.{waves_complete}

-- enough rounds are in them as soon as the run is complete
pub completes : (count : ℕ) (state : State) → IsComplete (rounds count state) → IsComplete (completed_within count state)
completes zero state complete = complete
completes (suc count) state complete = go (is_complete state) refl (completes count (round_of state) complete)
  where
    go : (done : Bool) → is_complete state ≡ done → IsComplete (completed_within count (round_of state)) →
        IsComplete (cond done state (completed_within count (round_of state)))
    go true is later = is_complete-true state is
    go false is later = later

module _ (circuit : Circuit) (ok : IsCircuit circuit) (last : ℕ) where
  pub completed_sound : (count : ℕ) (state : State) → IsSound circuit last state → IsSound circuit last (completed_within count state)
  completed_sound zero state sound = sound
  completed_sound (suc count) state sound =
      go (is_complete state) (completed_sound count (round_of state) (round_sound circuit ok last state sound))
    where
      go : (done : Bool) → IsSound circuit last (completed_within count (round_of state)) →
          IsSound circuit last (cond done state (completed_within count (round_of state)))
      go true later = sound
      go false later = later

  pub rounds_end : (state : State) → IsSound circuit last state → IsComplete (completed_within (most_rounds last circuit) state)
  rounds_end state sound = completes (most_rounds last circuit) state (most_rounds_complete circuit ok last state sound)

  -- complete runs whose nets begin at the same ticks show the same
  same_from_floors : (one other : State) → IsSound circuit last one → IsSound circuit last other → IsComplete one → IsComplete other →
      ((net : ℕ) → floor_at one net ≡ floor_at other net) → waves_in one ≡ waves_in other
  same_from_floors one other sound_one sound_other complete_one complete_other floors =
      waves_complete circuit last one sound_one complete_one
      ∙ ap (λ (floor : ℕ → ℕ). map (λ net. wave_of (value_of circuit net) (floor net) last) (range_with_len 0 (length circuit)))
      (λ i net. floors net i)
      ∙ sym (waves_complete circuit last other sound_other complete_other)

  pub shows_as_rounds : (state : State) (events : List Event) → IsSound circuit last state → All (Exists circuit) events →
      IsComplete (steps state events) → waves_in (steps state events) ≡ waves_in (completed_within (most_rounds last circuit) state)
  shows_as_rounds state events sound exist complete =
      same_from_floors (steps state events) (completed_within (most_rounds last circuit) state)
      (steps_sound circuit ok last state events sound exist) (completed_sound (most_rounds last circuit) state sound) complete
      (rounds_end state sound) (λ net. steps_floor state events net ∙ sym (completed_floor (most_rounds last circuit) state net))
