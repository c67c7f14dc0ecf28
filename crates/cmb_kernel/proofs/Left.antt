-- The progress that is left, as a measure.
use Rattle.std.proofs.Common.{◌≡◌, ℕ, ◌+◌, ◌*◌, ◌-◌, ◌<◌, ◌≤◌, true, length, ◌∙◌, arith}
use Rattle.std.proofs.lemmas.Bool.{ltb-true}
use Rattle.std.proofs.Math.Nat.{add-mul, mul_comm}
use Rattle.design.specs.Circuit.{Circuit, IsCircuit, pin_count}
use Rattle.cmb_events.specs.declared.event.Event.{Event}
use Rattle.cmb_events.specs.Schedule.{Exists}
use Rattle.cmb_kernel.specs.State.{State}
use Rattle.cmb_kernel.specs.Step.{step}
use Rattle.cmb_kernel.specs.Useful.{progress, is_useful, remaining}
use Rattle.cmb_kernel.specs.Sound.{IsSound}
use Rattle.cmb_kernel.proofs.Soundness.{step_sound}
use Rattle.cmb_kernel.proofs.Measure.{progress_bound, progress_rises}

module _ (circuit : Circuit) (ok : IsCircuit circuit) (last : ℕ) (state : State) (sound : IsSound circuit last state) where
  -- all frontiers together are at most the end for each net and each pin
  pub progress_within : progress state ≤ last * (length circuit + pin_count circuit)
  progress_within =
      spread last (length circuit) (pin_count circuit) (progress state) (progress_bound circuit ok last state sound)
    where
      spread : (last nets pins sum : ℕ) → sum ≤ nets * last + pins * last → sum ≤ last * (nets + pins)
      spread last nets pins sum bound =
          let over = mul_comm last (nets + pins) ∙ add-mul nets pins last in
          omega (arith, bound, over)

module _ (circuit : Circuit) (ok : IsCircuit circuit) (last : ℕ) (state : State) (sound : IsSound circuit last state)
    (event : Event) (exists : Exists circuit event) where
  pub useful_lowers : is_useful state event ≡ true → remaining circuit last (step state event) < remaining circuit last state
  useful_lowers useful =
      less (last * (length circuit + pin_count circuit)) (progress state) (progress (step state event))
      (ltb-true (progress state) (progress (step state event)) useful)
      (progress_within circuit ok last (step state event) (step_sound circuit ok last state event sound exists))
    where
      less : (all old new : ℕ) → old < new → new ≤ all → all - new < all - old
      less all old new up within = omega arith

  pub none_raises : remaining circuit last (step state event) ≤ remaining circuit last state
  none_raises =
      most (last * (length circuit + pin_count circuit)) (progress state) (progress (step state event))
      (progress_rises circuit ok last state event sound exists)
    where
      most : (all old new : ℕ) → old ≤ new → all - new ≤ all - old
      most all old new up = omega arith
