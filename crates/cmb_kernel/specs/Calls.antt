-- How a call that changes a kernel ends.
use Rattle.std.specs.Prelude.{◌≡◌, ◌≢◌, true, false, Option, None, Result, Err, OnOk, IfErr}
use Rattle.cmb_kernel.specs.declared.fault.KernelFault.{KernelFault}
use Rattle.cmb_kernel.specs.declared.fault.KernelFault.TheVariants.{Memory}
use Rattle.cmb_kernel.specs.State.{State, KernelView}
use Rattle.cmb_kernel.specs.Sound.{IsSound}
use Rattle.cmb_kernel.specs.Refusals.{refusal, answer}

-- the result of a call with this fault, if any, which otherwise gives this state and this value
pub record IsOutcome {A : Type 0} (old new : KernelView) (fault : Option KernelFault) (state : State) (value : A) (result : Result A KernelFault) : Type 0 where
  -- unless an allocation failed, it is the refusal, or else the value
  pub answer : result ≢ Err Memory → result ≡ answer (refusal old fault) value
  pub ok : OnOk result (new ≡ record old { state = state })
  -- a refusal changes nothing
  pub refused : IfErr result (λ given. given ≢ Memory → new ≡ old)
  -- if an allocation failed, the call wasn't refused, and the kernel has failed from then on
  pub memory : result ≡ Err Memory → (refusal old fault ≡ None) × (new.failed ≡ true)
  pub sound : new.failed ≡ false → IsSound new.circuit new.end new.state
