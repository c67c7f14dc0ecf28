-- An event that is there, applied to a kernel that runs: memory alone can be wanting, and the kernel has failed then.
use Rattle.std.proofs.Common.{◌≡◌, ◌≢◌, Bool, true, false, cond, None, Some, Result, Ok, Err, refl, ap, ◌∙◌}
use Rattle.std.proofs.lemmas.Bool.{lt-ltb}
use Rattle.design.specs.Circuit.{Circuit}
use Rattle.cmb_events.specs.declared.event.Event.{Event}
use Rattle.cmb_events.specs.declared.event.Event.TheVariants.{Deliver, Advance}
use Rattle.cmb_events.specs.Schedule.{Exists}
use Rattle.cmb_kernel.specs.declared.fault.KernelFault.{KernelFault}
use Rattle.cmb_kernel.specs.declared.fault.KernelFault.TheVariants.{NoSuchPin, NoSuchNet, TooManyEvents, Memory, Failed}
use Rattle.cmb_kernel.specs.State.{State, KernelView}
use Rattle.cmb_kernel.specs.Refusals.{event_fault, refusal, answer}
use Rattle.cmb_kernel.specs.Calls.{IsOutcome}

faultless : (circuit : Circuit) (event : Event) → Exists circuit event → event_fault circuit 0 event ≡ None
faultless circuit (Deliver pin) exists = ap (λ b. cond b None (Some (NoSuchPin 0))) (lt-ltb _ _ exists)
faultless circuit (Advance net) exists = ap (λ b. cond b None (Some (NoSuchNet 0))) (lt-ltb _ _ exists)

abbrev ended : KernelFault → Result Bool KernelFault
ended fault = Err fault

module _ (old new : KernelView) (event : Event) (state : State) (value : Bool) (running : old.failed ≡ false) (exists : Exists old.circuit event) where
  abbrev Ends : KernelFault → Type 0
  Ends fault = IsOutcome {A = Bool} old new (event_fault old.circuit 0 event) state value (ended fault)

  never_refused : (fault : KernelFault) → (ended fault ≢ ended Memory) → Ends fault → ⊥
  never_refused fault other ends =
      let none : refusal old (event_fault old.circuit 0 event) ≡ None =
      ap (λ b. cond b (Some Failed) (event_fault old.circuit 0 event)) running ∙ faultless old.circuit event exists in
      let is : ended fault ≡ Ok value = ends.answer other ∙ ap (λ refused. answer refused value) none in
      cc

  pub only_memory : (fault : KernelFault) → Ends fault → fault ≡ Memory
  only_memory Memory ends = refl
  only_memory (NoSuchPin at) ends = absurd (never_refused (NoSuchPin at) (λ e. cc) ends)
  only_memory (NoSuchNet at) ends = absurd (never_refused (NoSuchNet at) (λ e. cc) ends)
  only_memory TooManyEvents ends = absurd (never_refused TooManyEvents (λ e. cc) ends)
  only_memory Failed ends = absurd (never_refused Failed (λ e. cc) ends)

  pub has_failed : (fault : KernelFault) → Ends fault → new.failed ≡ true
  has_failed fault ends = (ends.memory (ap ended (only_memory fault ends))).1
