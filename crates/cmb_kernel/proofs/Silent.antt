-- What is counted of events that send nothing.
use Rattle.std.proofs.Common.{◌≡◌, ℕ, zero, suc, ◌+◌, ◌≤◌, min, [], refl, ◌∙◌, arith}
use Rattle.cmb_kernel.specs.declared.counts.Counts.{Counts}
use Rattle.cmb_kernel.specs.Step.{counted, counted_silent}

-- they leave the counts of messages
pub silent_sent : (events : ℕ) (counts : Counts) →
    ((counted_silent events counts).changes ≡ counts.changes) × ((counted_silent events counts).nulls ≡ counts.nulls)
silent_sent zero counts = (refl, refl)
silent_sent (suc events) counts =
    let rest = silent_sent events (counted counts []) in
    (omega (arith, rest.0), omega (arith, rest.1))

-- one by one and at once
pub silent_at_once : (events : ℕ) (counts : Counts) → counts.events ≤ 18_446_744_073_709_551_615 →
    counted_silent events counts ≡ record counts { events = min (counts.events + events) 18_446_744_073_709_551_615 }
silent_at_once zero counts within =
    let same : counts.events ≡ min (counts.events + 0) 18_446_744_073_709_551_615 = omega arith in
    λ i. record counts { events = same i }
silent_at_once (suc events) counts within =
    let count : min (min (counts.events + 1) 18_446_744_073_709_551_615 + events) 18_446_744_073_709_551_615
    ≡ min (counts.events + suc events) 18_446_744_073_709_551_615 = omega arith in
    let changes : counts.changes + 0 ≡ counts.changes = omega arith in
    let nulls : counts.nulls + 0 ≡ counts.nulls = omega arith in
    silent_at_once events (counted counts []) (omega arith)
    ∙ (λ i. record { events = count i; changes = changes i; nulls = nulls i; rounds = counts.rounds })
