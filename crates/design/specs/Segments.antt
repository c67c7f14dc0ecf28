-- The order of a circuit's nets, divided into loops of gates and straight stretches.
use Rattle.std.specs.Prelude.{◌≡◌, ℕ, ◌+◌, ◌<◌, ◌≤◌, true, false, List, [], ◌∷◌, length, slice_get, slice_index_or, Some}
use Rattle.design.specs.declared.segments.Segment.{Segment}
use Rattle.design.specs.Circuit.{Circuit}
use Rattle.design.specs.Flow.{IsGate, Feeds}

-- the gate at a place of an order has the gate at another place at a pin
pub record Takes (circuit : Circuit) (order : List ℕ) (place other : ℕ) : Type 0 where
  pub gate : ℕ
  pub source : ℕ
  pub gate_at : slice_get order place ≡ Some gate
  pub source_at : slice_get order other ≡ Some source
  pub source_gate : IsGate circuit source
  pub feeds : Feeds circuit source gate

-- the gate at a place is at or before a gate at its pins
abbrev pub StandsBefore : Circuit → List ℕ → ℕ → Type 0
StandsBefore circuit order place = (other : ℕ) × (place ≤ other) × Takes circuit order place other

-- a segment from a place on
pub record IsSegment (circuit : Circuit) (order : List ℕ) (begin : ℕ) (segment : Segment) : Type 0 where
  pub some_net : begin < segment.end
  pub within : segment.end ≤ length order
  -- values flow back only inside loops, and never out of one
  pub inside : (place other : ℕ) → begin ≤ place → place < segment.end → place ≤ other → Takes circuit order place other →
      (segment.loops ≡ true) × (other < segment.end)
  -- values flow back to where a loop begins, and past each place where it might be cut in two
  pub first : segment.loops ≡ true → StandsBefore circuit order begin
  pub whole : segment.loops ≡ true → (cut : ℕ) → begin < cut → cut < segment.end →
      (place : ℕ) × (other : ℕ) × (begin ≤ place) × (place < cut) × (cut ≤ other) × Takes circuit order place other
  -- a straight stretch ends at a loop or at the end of the order
  pub ends : segment.loops ≡ false → segment.end < length order → StandsBefore circuit order segment.end

-- the segments lie end to end, from one place to another
abbrev pub LieBetween : Circuit → List ℕ → ℕ → List Segment → ℕ → Type 0
LieBetween circuit order begin [] end = begin ≡ end
LieBetween circuit order begin (segment ∷ segments) end =
    IsSegment circuit order begin segment × LieBetween circuit order segment.end segments end

-- the segments lie end to end and cover the order
abbrev pub IsCutUp : Circuit → List ℕ → List Segment → Type 0
IsCutUp circuit order segments = LieBetween circuit order 0 segments (length order)

-- ---- the counts that it is computed from

abbrev pub past_of : List ℕ → ℕ → ℕ
past_of past number = slice_index_or past number 0

-- for each net one more than the last of the first places of an order at which it is, 0 if there is none
pub record IsPast (order : List ℕ) (count : ℕ) (past : List ℕ) : Type 0 where
  pub each : (place net : ℕ) → place < count → slice_get order place ≡ Some net → place < past_of past net
  pub there : (place net : ℕ) → past_of past net ≡ place + 1 → slice_get order place ≡ Some net

-- for each of the first places one more than the last place of a gate at the pins of its gate, 0 if there is none
pub record IsAhead (circuit : Circuit) (order : List ℕ) (count : ℕ) (ahead : List ℕ) : Type 0 where
  pub size : length ahead ≡ count
  pub each : (place other : ℕ) → place < count → Takes circuit order place other → other < past_of ahead place
  pub there : (place other : ℕ) → past_of ahead place ≡ other + 1 → Takes circuit order place other

-- a loop from a place on, up to its end
pub record IsLoop (ahead : List ℕ) (begin end : ℕ) : Type 0 where
  pub some_net : begin < end
  pub within : end ≤ length ahead
  pub closed : (place : ℕ) → begin ≤ place → place < end → past_of ahead place ≤ end
  pub whole : (cut : ℕ) → begin < cut → cut < end → (place : ℕ) × (begin ≤ place) × (place < cut) × (cut < past_of ahead place)

-- a straight stretch from a place on, up to its end
pub record IsStraight (ahead : List ℕ) (begin end : ℕ) : Type 0 where
  pub from : begin ≤ end
  pub within : end ≤ length ahead
  pub straight : (place : ℕ) → begin ≤ place → place < end → past_of ahead place ≤ place
  pub ends : end < length ahead → end < past_of ahead end
