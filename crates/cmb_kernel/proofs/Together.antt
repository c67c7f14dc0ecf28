-- Rounds with drains between them.
use Rattle.std.proofs.Common.{◌≡◌, ℕ, zero, suc, true, false, List, [], ◌∷◌, map, refl, sym, ◌∙◌, slice_index_or}
use Rattle.design.specs.Circuit.{Net, Circuit, IsCircuit}
use Rattle.cmb_channels.proofs.CallerLemmas.{view_of_update_other}
use Rattle.gate_process.specs.Step.{ProcessState, started_process, drained}
use Rattle.cmb_kernel.specs.State.{State, started, floor_at, is_complete, most_rounds}
use Rattle.cmb_kernel.specs.Step.{after_drain, round_events, round_of, completed_within}
use Rattle.cmb_kernel.specs.Sound.{IsSound}
use Rattle.cmb_kernel.specs.Drains.{apart_from_waves}
use Rattle.cmb_kernel.proofs.LeastFrontier.{round_sound}
use Rattle.cmb_kernel.proofs.Completion.{LeadsTo, leads_on, led}
use Rattle.cmb_kernel.proofs.Enough.{most_rounds_complete}
use Rattle.cmb_kernel.proofs.Alike.{alike_round, alike_counts, alike_complete}
use Rattle.cmb_kernel.proofs.Mixed.{steps_floor}

-- ---- floors

-- nothing was taken out at the start
pub started_floor : (circuit : Circuit) (end net : ℕ) → floor_at (started circuit end) net ≡ 0
started_floor circuit end net = go circuit net
  where
    go : (nets : List Net) (net : ℕ) → slice_index_or (map (λ (process : ProcessState). process.floor) (map (started_process end) nets)) net 0 ≡ 0
    go [] net = refl
    go (first ∷ nets) zero = refl
    go (first ∷ nets) (suc net) = go nets net

-- a round takes out nothing
pub round_floor : (state : State) (net : ℕ) → floor_at (round_of state) net ≡ floor_at state net
round_floor state net = steps_floor state (round_events state) net

-- a drain takes out nothing of another net
pub floor_elsewhere : (state : State) (net bound other : ℕ) → (other ≡ net → ⊥) → floor_at (after_drain state net bound) other ≡ floor_at state other
floor_elsewhere state net bound other apart =
    view_of_update_other (λ (process : ProcessState). process.floor) (drained bound) net state.processes other apart

-- ---- rounds

-- rounds alone lead from a start to a state that is alike but for what its nets show
pub record RoundsAlike (circuit : Circuit) (last : ℕ) (start now : State) : Type 0 where
  pub reached : State
  pub sound : IsSound circuit last reached
  pub alike : apart_from_waves now ≡ apart_from_waves reached
  pub leads : LeadsTo start reached

pub no_round_yet : (circuit : Circuit) (last : ℕ) (start : State) → IsSound circuit last start → RoundsAlike circuit last start start
no_round_yet circuit last start sound = record { reached = start; sound = sound; alike = refl; leads = λ count complete. (count, refl, complete) }

-- drains change nothing of it
pub still_alike : {circuit : Circuit} {last : ℕ} {start now : State} (next : State) → apart_from_waves next ≡ apart_from_waves now →
    RoundsAlike circuit last start now → RoundsAlike circuit last start next
still_alike next same rounds = record { reached = rounds.reached; sound = rounds.sound; alike = same ∙ rounds.alike; leads = rounds.leads }

module _ (circuit : Circuit) (ok : IsCircuit circuit) (last : ℕ) (start now : State) (rounds : RoundsAlike circuit last start now) where
  -- a round more
  pub round_more : IsSound circuit last now → is_complete now ≡ false → RoundsAlike circuit last start (round_of now)
  round_more sound incomplete = record {
    reached = round_of rounds.reached;
    sound = round_sound circuit ok last rounds.reached rounds.sound;
    alike = alike_round circuit ok last now rounds.reached sound rounds.sound rounds.alike;
    leads = leads_on start rounds.reached (sym (alike_complete now rounds.reached rounds.alike) ∙ incomplete) rounds.leads;
  }

  -- at the end as much was counted as by rounds alone
  pub same_counts : IsSound circuit last start → is_complete now ≡ true → now.counts ≡ (completed_within (most_rounds last circuit) start).counts
  same_counts sound complete =
      let here = led start rounds.reached (sym (alike_complete now rounds.reached rounds.alike) ∙ complete) rounds.leads (most_rounds last circuit)
      (most_rounds_complete circuit ok last start sound) in
      alike_counts now rounds.reached rounds.alike ∙ (λ i. (here i).counts)
