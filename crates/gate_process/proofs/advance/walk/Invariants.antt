use Rattle.std.proofs.Common.{◌≡◌, ◌≢◌, ℕ, ◌-◌, ◌<◌, ◌≤◌, max, length}
use Rattle.logic3.specs.declared.value.Value.TheVariants.{Unknown}
use Rattle.gate_process.specs.Reading.{reads, shown}
use Rattle.gate_process.specs.Step.{continued, always}
use Rattle.gate_process.proofs.Walks.{Walked}
use Rattle.gate_process.proofs.advance.walk.Given as goal

abbrev pub invariant-loop-tick : goal.invariant-loop-tick
invariant-loop-tick l = record {
  walked : Walked (continued (always l.fn.last) l.span.from (shown l.net l.initial.read)) l.span.from l.most l.tick l.told l.latest l.messages.items;
  left : (t : ℕ) → l.tick ≤ t → shown l.net l.read t ≡ shown l.net l.initial.read t;
  count : length l.read ≡ reads l.net;
  settled : (t : ℕ) → max l.span.from l.span.sure ≤ t → t < l.tick → shown l.net l.initial.read t ≢ Unknown;
}

abbrev pub decreases-loop-tick : goal.decreases-loop-tick
decreases-loop-tick l = l.most - l.tick
