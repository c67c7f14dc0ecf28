-- A kernel whose nets are drained one after another.
use Rattle.std.proofs.Common.{◌≡◌, ◌≢◌, ℕ, ◌+◌, ◌<◌, ◌≤◌, ◌==◌, Bool, true, false, List, [], ◌∷◌, ◌++◌, map, take, get_or, length, All, refl, ap, sym, subst, ◌∙◌, arith, ◌⊎◌, inl, inr}
use Rattle.std.proofs.lemmas.Bool.{eqb-true, eqb-false}
use Rattle.std.proofs.lemmas.List.{map_more}
use Rattle.std.proofs.lemmas.List.Elements.{All-more, All-weaker}
use Rattle.logic3.specs.declared.change.Change.{Change}
use Rattle.logic3.specs.Wave.{changes_between}
use Rattle.design.specs.Equations.{value_of}
use Rattle.cmb_kernel.specs.State.{KernelView, floor_at, least_frontier}
use Rattle.cmb_kernel.specs.Step.{after_drain}
use Rattle.cmb_kernel.specs.Sound.{IsSound}
use Rattle.cmb_kernel.specs.Drains.{apart_from_waves}
use Rattle.cmb_kernel.proofs.CallerLemmas.{alike_drain, alike_least, floor_elsewhere}
use Rattle.kernel_runs.specs.Drained.{EachFloor, DrainsTo}

pub DrainsTo-none : (start : KernelView) → IsSound start.circuit start.end start.state → DrainsTo start start
DrainsTo-none start sound = record { run = refl; sound = sound; alike = refl }

pub DrainsTo-trans : (start mid now : KernelView) → DrainsTo start mid → DrainsTo mid now → DrainsTo start now
DrainsTo-trans start mid now first second = record {
  run = second.run ∙ ap (λ (k : KernelView). record k { state = now.state }) first.run;
  sound = second.sound;
  alike = second.alike ∙ first.alike;
}

-- drains raise no frontier
pub least_same : (start now : KernelView) → DrainsTo start now → least_frontier now.end now.state ≡ least_frontier start.end start.state
least_same start now drains =
    ap (λ (k : KernelView). least_frontier k.end now.state) drains.run ∙ alike_least now.state start.state drains.alike start.end

-- what a drain of a net makes of a kernel
pub record IsDrain (now next : KernelView) (net bound : ℕ) : Type 0 where
  pub goes : next ≡ record now { state = after_drain now.state net bound }
  pub floor : floor_at next.state net ≡ bound
  pub sound : IsSound next.circuit next.end next.state

module _ {now next : KernelView} {net bound : ℕ} (drain : IsDrain now next net bound) where
  pub DrainsTo-drain : DrainsTo now next
  DrainsTo-drain = record {
    run = drain.goes ∙ ap (λ s. record now { state = s }) (sym (ap (λ (k : KernelView). k.state) drain.goes));
    sound = drain.sound;
    alike = ap (λ (k : KernelView). apart_from_waves k.state) drain.goes ∙ alike_drain now.state net bound;
  }

  -- the net's floor is the bound, and any other's is what it was
  pub floor_after : (other : ℕ) → ((other ≡ net) × (floor_at next.state other ≡ bound)) ⊎ ((other ≢ net) × (floor_at next.state other ≡ floor_at now.state other))
  floor_after other = go (other == net) refl
    where
      go : (same : Bool) → (other == net) ≡ same →
          ((other ≡ net) × (floor_at next.state other ≡ bound)) ⊎ ((other ≢ net) × (floor_at next.state other ≡ floor_at now.state other))
      go true e = let is = eqb-true other net e in inl (is, ap (floor_at next.state) is ∙ drain.floor)
      go false e =
          let apart = eqb-false other net e in
          inr (apart, ap (λ (k : KernelView). floor_at k.state other) drain.goes ∙ floor_elsewhere now.state net bound other apart)

  -- no floor is above the bound then
  pub EachFloor-drain : EachFloor now (λ floor. floor ≤ bound) → EachFloor next (λ floor. floor ≤ bound)
  EachFloor-drain low other below = go (floor_after other)
    where
      go : ((other ≡ net) × (floor_at next.state other ≡ bound)) ⊎ ((other ≢ net) × (floor_at next.state other ≡ floor_at now.state other)) →
          floor_at next.state other ≤ bound
      go (inl (is, floor)) = omega arith
      go (inr (apart, floor)) =
          let there = low other (subst (λ c. other < length c) (ap (λ (k : KernelView). k.circuit) drain.goes) below) in omega arith

  -- a net that was drained so far stays so
  pub stays_drained : (other : ℕ) → floor_at now.state other ≡ bound → floor_at next.state other ≡ bound
  stays_drained other drained = go (floor_after other)
    where
      go : ((other ≡ net) × (floor_at next.state other ≡ bound)) ⊎ ((other ≢ net) × (floor_at next.state other ≡ floor_at now.state other)) →
          floor_at next.state other ≡ bound
      go (inl (is, floor)) = floor
      go (inr (apart, floor)) = floor ∙ drained

  -- one net more was drained
  pub drained_more : (nets : List ℕ) (i : ℕ) → i < length nets → get_or nets i 0 ≡ net →
      All (λ other. floor_at now.state other ≡ bound) (take i nets) → All (λ other. floor_at next.state other ≡ bound) (take (i + 1) nets)
  drained_more nets i inside here so_far =
      All-more (λ other. floor_at next.state other ≡ bound) nets i 0 inside
      (All-weaker (λ other. floor_at now.state other ≡ bound) (λ other. floor_at next.state other ≡ bound) stays_drained (take i nets) so_far)
      (ap (floor_at next.state) here ∙ drain.floor)

  -- of the nets before a place in a list none but this one was touched
  pub others_after : (start : KernelView) (nets : List ℕ) (i : ℕ) → get_or nets i 0 ≡ net →
      ((other : ℕ) → ((k : ℕ) → k < i → get_or nets k 0 ≢ other) → floor_at now.state other ≡ floor_at start.state other) →
      (other : ℕ) → ((k : ℕ) → k < i + 1 → get_or nets k 0 ≢ other) → floor_at next.state other ≡ floor_at start.state other
  others_after start nets i here so_far other apart = go (floor_after other)
    where
      go : ((other ≡ net) × (floor_at next.state other ≡ bound)) ⊎ ((other ≢ net) × (floor_at next.state other ≡ floor_at now.state other)) →
          floor_at next.state other ≡ floor_at start.state other
      go (inl (is, floor)) = absurd (apart i (omega arith) (here ∙ sym is))
      go (inr (differs, floor)) = floor ∙ so_far other (λ k h. apart k (omega arith))

-- the changes that a drain of the next net hands out join those of the nets before it
pub parts_more : (start now : KernelView) (nets : List ℕ) (i bound : ℕ) (parts : List (List Change)) (changes : List Change) → i < length nets →
    DrainsTo start now → floor_at now.state (get_or nets i 0) ≡ floor_at start.state (get_or nets i 0) →
    changes ≡ changes_between (value_of now.circuit (get_or nets i 0)) (floor_at now.state (get_or nets i 0)) bound →
    parts ≡ map (λ net. changes_between (value_of start.circuit net) (floor_at start.state net) bound) (take i nets) →
    parts ++ changes ∷ [] ≡ map (λ net. changes_between (value_of start.circuit net) (floor_at start.state net) bound) (take (i + 1) nets)
parts_more start now nets i bound parts changes inside drains floor is so_far =
    let net = get_or nets i 0 in
    let circuit = ap (λ (k : KernelView). k.circuit) drains.run in
    let here = is ∙ ap (λ c. changes_between (value_of c net) (floor_at now.state net) bound) circuit
    ∙ ap (λ from. changes_between (value_of start.circuit net) from bound) floor in
    ap (λ ps. ps ++ changes ∷ []) so_far
    ∙ ap (λ cs. map (λ net. changes_between (value_of start.circuit net) (floor_at start.state net) bound) (take i nets) ++ cs ∷ []) here
    ∙ sym (map_more (λ net. changes_between (value_of start.circuit net) (floor_at start.state net) bound) nets i 0 inside)
