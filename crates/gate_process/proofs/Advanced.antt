-- What a process knows when it has advanced.
use Rattle.std.proofs.Common.{◌≡◌, ℕ, zero, suc, ◌<◌, ◌≤◌, List, All, length, Some, slice_get, refl, ap, sym, subst, ◌∙◌, arith}
use Rattle.std.proofs.lemmas.Bool.{lt-ltb}
use Rattle.logic3.specs.declared.change.Change.{Change}
use Rattle.logic3.specs.Wave.{Wave, value_at, value_before, last_value, changes_between, wave_of, joined}
use Rattle.logic3.proofs.CallerLemmas.{last_value-wave_of, All-wave_of, changes_between-same, joined-wave_of}
use Rattle.gate_process.specs.Knowledge.{Knowledge, keeping}
use Rattle.gate_process.specs.Step.{ProcessState, next_frontier, oldest_asked, reckoned, extended, advanced}
use Rattle.gate_process.specs.Truth.{IsProcess}
use Rattle.gate_process.proofs.Kept.{all_kept-each}

module _ (process : ProcessState) (ok : IsProcess process) where
  known_wave : process.known.wave ≡ wave_of (value_at process.known.wave) process.floor process.known.frontier
  known_wave = ap (λ (known : Knowledge). known.wave) ok.known

  -- the waveform shows in the end what it shows at the last tick
  pub wave_ends : last_value process.known.wave ≡ value_before (value_at process.known.wave) process.known.frontier
  wave_ends =
      ap last_value known_wave ∙ last_value-wave_of (value_at process.known.wave) process.floor process.known.frontier ok.floor

  pub wave_past : All (λ (change : Change). change.tick < process.known.frontier) process.known.wave.changes
  wave_past =
      subst (λ (wave : Wave). All (λ (change : Change). change.tick < process.known.frontier) wave.changes) (sym known_wave)
      (All-wave_of (value_at process.known.wave) process.floor process.known.frontier)

  -- up to the frontier the process reckons what it knows
  reckoned-early : (tick : ℕ) → tick < process.known.frontier → reckoned process tick ≡ value_at process.known.wave tick
  reckoned-early tick early = rw (lt-ltb tick process.known.frontier early) refl

  reckoned-before : (at : ℕ) → at ≤ process.known.frontier → value_before (reckoned process) at ≡ value_before (value_at process.known.wave) at
  reckoned-before zero within = refl
  reckoned-before (suc at) within = reckoned-early at (omega arith)

  -- the waveform with the changes that follow
  pub advanced_wave : joined process.known.wave (changes_between (reckoned process) process.known.frontier (next_frontier process))
      ≡ wave_of (reckoned process) process.floor (next_frontier process)
  advanced_wave =
      let before = reckoned-before process.floor ok.floor in
      let changes = changes_between-same (reckoned process) (value_at process.known.wave) process.floor process.known.frontier before
      (λ tick a b. reckoned-early tick b) in
      let known : process.known.wave ≡ wave_of (reckoned process) process.floor process.known.frontier =
      known_wave ∙ (λ i. record { before = sym before i; changes = sym changes i }) in
      ap (λ (wave : Wave). joined wave (changes_between (reckoned process) process.known.frontier (next_frontier process))) known
      ∙ joined-wave_of (reckoned process) process.floor process.known.frontier (next_frontier process) ok.floor ok.ahead

  -- so a process of these parts has advanced
  pub advanced_of : (wave : Wave) (frontier : ℕ) (received : List Knowledge) → frontier ≡ next_frontier process →
      wave ≡ joined process.known.wave (changes_between (reckoned process) process.known.frontier frontier) →
      length received ≡ length process.received →
      ((place : ℕ) (known : Knowledge) → slice_get process.received place ≡ Some known →
      slice_get received place ≡ Some (keeping (oldest_asked process.net place frontier) known)) →
      record process { known = record { wave = wave; frontier = frontier }; received = received } ≡ advanced process
  advanced_of wave frontier received to wave_is long each =
      let all = all_kept-each (extended process) process.received received long (λ place known e.
      each place known e ∙ ap (λ n. Some (keeping (oldest_asked process.net place n) known)) to) in
      let shown = wave_is ∙ ap (λ n. joined process.known.wave (changes_between (reckoned process) process.known.frontier n)) to ∙ advanced_wave in
      λ i. record process { known = record { wave = shown i; frontier = to i }; received = all i }
