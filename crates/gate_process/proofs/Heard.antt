-- What a process knows when it heard a message.
use Rattle.std.proofs.Common.{◌≡◌, ◌≢◌, ℕ, ◌<◌, ◌≤◌, Some, slice_get, slice_set, refl, ap, sym, subst, ◌∙◌, arith}
use Rattle.std.proofs.lemmas.Option.{same_Some}
use Rattle.logic3.specs.declared.value.Value.{Value}
use Rattle.logic3.specs.declared.value.Value.TheVariants.{Unknown}
use Rattle.logic3.specs.declared.change.Change.{Change}
use Rattle.logic3.specs.Wave.{value_at, value_before, last_value}
use Rattle.logic3.proofs.CallerLemmas.{Alternates-push}
use Rattle.cmb_channels.specs.declared.message.Message.{Message}
use Rattle.cmb_channels.specs.declared.message.Message.TheVariants.{Change as Changes, Null}
use Rattle.cmb_channels.proofs.CallerLemmas.{update-set}
use Rattle.gate_process.specs.Knowledge.{Knowledge, IsKnowledge, told}
use Rattle.gate_process.specs.Step.{ProcessState, pin_frontier, pin_last, kept_from, kept, heard}
use Rattle.gate_process.specs.Truth.{IsProcess, CanHear}
use Rattle.gate_process.proofs.Events.{heard_is_process}
use Rattle.gate_process.proofs.Forgets.{forgotten_is_known}
use Rattle.gate_process.proofs.Kept.{kept_later, kept_farther}

-- where nothing was forgotten the waveform of a pin begins at X
pub nothing_forgotten : (process : ProcessState) (place : ℕ) (known : Knowledge) → IsProcess process → slice_get process.received place ≡ Some known →
    kept_from process place known.frontier ≡ 0 → known.wave.before ≡ Unknown
nothing_forgotten process place known ok at none =
    ap (λ (k : Knowledge). k.wave.before) (ok.heard place known at) ∙ ap (value_before (value_at known.wave)) none

pub told-before : (known : Knowledge) (message : Message) → (told known message).wave.before ≡ known.wave.before
told-before known (Changes change) = refl
told-before known (Null bound) = refl

-- the same of what it is told
pub nothing_forgotten_told : (process : ProcessState) (place : ℕ) (known : Knowledge) (message : Message) → IsProcess process →
    slice_get process.received place ≡ Some known → known.frontier < (told known message).frontier →
    kept_from process place (told known message).frontier ≡ 0 → (told known message).wave.before ≡ Unknown
nothing_forgotten_told process place known message ok at raises none =
    told-before known message
    ∙ nothing_forgotten process place known ok at
    (let less = kept_later process place known.frontier (told known message).frontier (omega (arith, raises)) in omega (arith, less, none))

-- the process that wrote what it heard at the place
abbrev pub heard_at : ℕ → Knowledge → ProcessState → ProcessState
heard_at place known process = record process { received = slice_set process.received place known }

pub heard-set : (process : ProcessState) (place : ℕ) (known : Knowledge) (message : Message) → slice_get process.received place ≡ Some known →
    heard_at place (kept process place (told known message)) process ≡ heard place message process
heard-set process place known message at =
    ap (λ received. record process { received = received })
    (sym (update-set (λ (k : Knowledge). kept process place (told k message)) place process.received known at))

pub heard_at_is_process : (process : ProcessState) (place : ℕ) (known : Knowledge) (message : Message) → IsProcess process →
    slice_get process.received place ≡ Some known → known.frontier < (told known message).frontier →
    IsProcess (heard_at place (kept process place (told known message)) process)
heard_at_is_process process place known message ok at raises =
    subst IsProcess (sym (heard-set process place known message at))
    (heard_is_process process place message ok (λ k here.
    let same : known ≡ k = cc in
    subst (λ (x : Knowledge). x.frontier ≤ (told x message).frontier) same (omega arith)))

-- also where the net is known farther
pub nothing_forgotten_farther : (process farther : ProcessState) (place : ℕ) (known : Knowledge) → IsProcess process →
    slice_get process.received place ≡ Some known → process.net ≡ farther.net → process.known.frontier ≤ farther.known.frontier →
    kept_from farther place known.frontier ≡ 0 → known.wave.before ≡ Unknown
nothing_forgotten_farther process farther place known ok at same ahead none =
    nothing_forgotten process place known ok at
    (let less = kept_farther process farther place known.frontier same ahead in omega (arith, less, none))

-- ---- what can be heard

-- what a pin keeps is a waveform that is past its frontier
pub kept_known : (process : ProcessState) (place : ℕ) (known : Knowledge) → IsProcess process → slice_get process.received place ≡ Some known →
    IsKnowledge known
kept_known process place known ok at =
    subst IsKnowledge (sym (ok.heard place known at))
    (forgotten_is_known (kept_from process place known.frontier) known)

-- by the frontier and the last value that a pin has
pub can_hear_change : (process : ProcessState) (place frontier : ℕ) (last : Value) (change : Change) → IsProcess process →
    pin_frontier process place ≡ Some frontier → pin_last process place ≡ Some last →
    frontier ≤ change.tick → change.tick < process.end → change.value ≢ last → CanHear process place (Changes change)
can_hear_change process place frontier last change ok frontier_is last_is later within differs = λ known here.
    let is_known = kept_known process place known ok here in
    let same = same_Some known.frontier frontier (rw here at frontier_is) in
    let value = same_Some (last_value known.wave) last (rw here at last_is) in (
      omega arith,
      omega arith,
      Alternates-push known.wave.before 0 known.wave.changes change (omega arith) is_known.wave
          (λ n d below. let past = is_known.past n d below in omega arith) (λ equal. differs (equal ∙ value)),
    )

pub can_hear_null : (process : ProcessState) (place frontier bound : ℕ) → IsProcess process →
    pin_frontier process place ≡ Some frontier → frontier < bound → bound ≤ process.end → CanHear process place (Null bound)
can_hear_null process place frontier bound ok frontier_is raises within = λ known here.
    let same = same_Some known.frontier frontier (rw here at frontier_is) in
    (omega arith, within, (kept_known process place known ok here).wave)
