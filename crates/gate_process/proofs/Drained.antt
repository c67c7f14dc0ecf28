-- A process whose changes before a tick are taken out.
use Rattle.std.proofs.Common.{◌≡◌, ℕ, ◌≤◌, max, ap, sym, ◌∙◌, arith}
use Rattle.logic3.specs.declared.value.Value.{Value}
use Rattle.logic3.specs.Wave.{Wave, value_at, changes_between, changes_below, without_below, wave_of}
use Rattle.logic3.proofs.CallerLemmas.{value_at-wave_of, changes_between-same, changes_below-between, without_below-wave_of}
use Rattle.gate_process.specs.Knowledge.{Knowledge, forgetting}
use Rattle.gate_process.specs.Step.{ProcessState, drained, drained_changes}
use Rattle.gate_process.specs.Truth.{KnowsTruth, IsProcess}
use Rattle.gate_process.proofs.Told.{before_kept, forgetting_truth}
use Rattle.gate_process.proofs.Events.{forgetting_again}

-- taking out changes keeps the truth
pub drained_knows : (signals : ℕ → ℕ → Value) (number bound : ℕ) (process : ProcessState) → KnowsTruth signals number process →
    process.floor ≤ bound → bound ≤ process.known.frontier → KnowsTruth signals number (drained bound process)
drained_knows signals number bound process h a b = record {
  pins = h.pins;
  floor = omega (arith, h.floor);
  ahead = h.ahead;
  asked = h.asked;
  known = ap (λ k. forgetting (max process.floor bound) k) h.known
      ∙ forgetting_truth (signals number) process.floor (max process.floor bound) process.known.frontier (omega arith) (omega (arith, h.floor));
  heard = h.heard;
}

-- what is taken out is true
pub drained_true : (signals : ℕ → ℕ → Value) (number bound : ℕ) (process : ProcessState) → KnowsTruth signals number process →
    process.floor ≤ bound → bound ≤ process.known.frontier →
    drained_changes bound process ≡ changes_between (signals number) process.floor bound
drained_true signals number bound process h a b =
    ap (λ (k : Knowledge). changes_between (value_at k.wave) process.floor bound) h.known
    ∙ changes_between-same (value_at (wave_of (signals number) process.floor process.known.frontier)) (signals number) process.floor bound
    (before_kept (signals number) process.floor process.known.frontier process.floor (omega arith) (omega arith))
    (λ tick x y. value_at-wave_of (signals number) process.floor process.known.frontier tick x (omega arith))

-- ---- processes without any truth

module _ (known : Knowledge) (floor bound : ℕ) (is : known ≡ forgetting floor known) (within : bound ≤ known.frontier) where
  -- a net's waveform is that of what it shows, from the floor on
  wave_is : known.wave ≡ wave_of (value_at known.wave) floor known.frontier
  wave_is = ap (λ (k : Knowledge). k.wave) is

  -- what is taken out of the waveform
  pub taken_out : changes_below bound known.wave.changes ≡ changes_between (value_at known.wave) floor bound
  taken_out =
      ap (λ (w : Wave). changes_below bound w.changes) wave_is
      ∙ changes_below-between (value_at known.wave) floor known.frontier bound within

  -- what is left of it
  pub left : without_below bound known.wave ≡ (forgetting (max floor bound) known).wave
  left =
      ap (without_below bound) wave_is
      ∙ without_below-wave_of (value_at known.wave) floor known.frontier bound within

module _ (process : ProcessState) (bound : ℕ) (ok : IsProcess process) (within : bound ≤ process.known.frontier) where
  pub drained_is_process : IsProcess (drained bound process)
  drained_is_process = record {
    timed = ok.timed;
    arity = ok.arity;
    end = ok.end;
    pins = ok.pins;
    floor = omega (arith, ok.floor);
    ahead = ok.ahead;
    asked = ok.asked;
    known = sym (forgetting_again (max process.floor bound) process.known (omega (arith, ok.floor)));
    heard = ok.heard;
  }
