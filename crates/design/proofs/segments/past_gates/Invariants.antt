use Rattle.std.proofs.Common.{◌≡◌, ℕ, ◌<◌, ◌≤◌, length, get_or}
use Rattle.design.specs.Flow.{IsGate}
use Rattle.design.specs.Segments.{past_of}
use Rattle.design.proofs.segments.past_gates.Given as goal

abbrev pub invariant-loop-pin : goal.invariant-loop-pin
invariant-loop-pin l = record {
  each : (place : ℕ) → place < l.pin-index → IsGate l.design.circuit (get_or l.pins place 0) → past_of l.past (get_or l.pins place 0) ≤ l.last;
  there : 0 < l.last → (place : ℕ) × (place < length l.pins) × IsGate l.design.circuit (get_or l.pins place 0)
      × (past_of l.past (get_or l.pins place 0) ≡ l.last);
}
