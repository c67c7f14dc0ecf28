-- How many rounds are enough.
use Rattle.std.proofs.Common.{◌≡◌, ℕ, ◌+◌, ◌-◌, ◌*◌, ◌/◌, ◌%◌, ◌<◌, ◌≤◌, min, true, false, map, ap, sym, subst, ◌∙◌, arith, ◌⊎◌, inl, inr}
use Rattle.std.proofs.lemmas.Bool.{cases_lt, eqb-false}
use Rattle.std.proofs.Math.Nat.{mul_comm}
use Rattle.design.specs.Circuit.{Circuit, IsCircuit}
use Rattle.gate_process.specs.Step.{ProcessState}
use Rattle.gate_process.proofs.CallerLemmas.{least-bound}
use Rattle.cmb_kernel.specs.State.{State, KernelView, least_frontier, least_delay, most_rounds, IsComplete, is_complete}
use Rattle.cmb_kernel.specs.Step.{round_of, rounds, completed_within}
use Rattle.cmb_kernel.specs.Sound.{IsSound}
use Rattle.cmb_kernel.proofs.LeastFrontier.{round_sound, round_raises}
use Rattle.cmb_kernel.proofs.Completion.{rounds_sound, complete_from_least, least_tells, rounds_complete, LeadsTo, leads_on, led}
use Rattle.cmb_kernel.proofs.UsefulEvents.{least_delay-positive}

-- a round raises the least frontier where it isn't the end
pub falls : (circuit : Circuit) → IsCircuit circuit → (last : ℕ) (state : State) (after : ℕ) → IsSound circuit last state →
    is_complete state ≡ false → min last (least_frontier last state + least_delay last circuit) ≤ after →
    last - after < last - least_frontier last state
falls circuit ok last state after sound incomplete raised =
    let apart = eqb-false _ _ (least_tells circuit last state sound ∙ incomplete) in
    let low = least-bound last (map (λ (p : ProcessState). p.known.frontier) state.processes) in
    let below : least_frontier last state < last = omega (arith, apart, low) in
    let delay = least_delay-positive circuit last ok (omega (arith, below)) in
    less last (least_frontier last state) (least_delay last circuit) after below delay raised
  where
    less : (last a d b : ℕ) → a < last → 0 < d → min last (a + d) ≤ b → last - b < last - a
    less last a d b h k e = omega arith

-- as many rounds as the end has least delays are enough
pub most_rounds_complete : (circuit : Circuit) → IsCircuit circuit → (last : ℕ) (state : State) → IsSound circuit last state →
    IsComplete (rounds (most_rounds last circuit) state)
most_rounds_complete circuit ok last state sound = go (cases_lt 0 last)
  where
    go : (0 < last) ⊎ (last ≤ 0) → IsComplete (rounds (most_rounds last circuit) state)
    go (inl some) =
        rounds_complete circuit ok last (most_rounds last circuit) state sound
        (covers last (least_delay last circuit) (least_delay-positive circuit last ok some))
      where
        covers : (n d : ℕ) → 0 < d → n ≤ (n + (d - 1)) / d * d
        covers n d pos =
            let whole : d * ((n + (d - 1)) / d) + (n + (d - 1)) % d ≡ n + (d - 1) = omega arith in
            let part : (n + (d - 1)) % d < d = omega arith in
            omega (arith, whole, part, mul_comm d ((n + (d - 1)) / d))
    go (inr none) =
        complete_from_least circuit last (rounds (most_rounds last circuit) state) (rounds_sound circuit ok last (most_rounds last circuit) state sound)
        (omega arith)

-- ---- rounds until a run is complete

-- rounds lead from the one run to the other
pub record RoundsTo (start now : KernelView) : Type 0 where
  pub run : now ≡ record start { state = now.state }
  pub sound : IsSound now.circuit now.end now.state
  pub leads : LeadsTo start.state now.state
  -- there is none where the one is complete
  pub idle : is_complete start.state ≡ true → now.state ≡ start.state

module _ (start now : KernelView) (ok : IsCircuit start.circuit) (so_far : RoundsTo start now) where
  now_ok : IsCircuit now.circuit
  now_ok = subst IsCircuit (sym (ap (λ (r : KernelView). r.circuit) so_far.run)) ok

  module _ (next : KernelView) (goes : next ≡ record now { state = round_of now.state }) (incomplete : is_complete now.state ≡ false) where
    pub one_more_round : RoundsTo start next
    one_more_round = record {
      run = goes ∙ ap (λ (r : KernelView). record r { state = round_of now.state }) so_far.run
          ∙ ap (λ s. record start { state = s }) (sym (ap (λ (r : KernelView). r.state) goes));
      sound = subst (λ (r : KernelView). IsSound r.circuit r.end r.state) (sym goes)
          (round_sound now.circuit now_ok now.end now.state so_far.sound);
      leads = subst (LeadsTo start.state) (sym (ap (λ (r : KernelView). r.state) goes)) (leads_on start.state now.state incomplete so_far.leads);
      idle = λ complete. absurd (let same = so_far.idle complete in cc);
    }

    -- and less is left to the end
    pub less_left : next.end - least_frontier next.end next.state < now.end - least_frontier now.end now.state
    less_left =
        subst (λ (r : KernelView). r.end - least_frontier r.end r.state < now.end - least_frontier now.end now.state) (sym goes)
        (falls now.circuit now_ok now.end now.state (least_frontier now.end (round_of now.state)) so_far.sound incomplete
        (round_raises now.circuit now_ok now.end now.state so_far.sound))

  pub completed : IsSound start.circuit start.end start.state → is_complete now.state ≡ true →
      now ≡ record start { state = completed_within (most_rounds start.end start.circuit) start.state }
  completed sound complete =
      so_far.run
      ∙ ap (λ s. record start { state = s })
      (led start.state now.state complete so_far.leads (most_rounds start.end start.circuit)
      (most_rounds_complete start.circuit ok start.end start.state sound))
