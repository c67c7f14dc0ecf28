-- A run that goes on, with what every net knows taken out each time.
use Rattle.std.proofs.Common.{◌≡◌, ◌≢◌, ℕ, ◌+◌, ◌-◌, ◌<◌, ◌≤◌, ◌==◌, min, Bool, true, false, List, [], ◌∷◌, map, length, refl, ap, sym, subst, ◌∙◌, arith, eqb-true}
use Rattle.std.specs.List.{All}
use Rattle.std.proofs.lemmas.Bool.{eq-eqb}
use Rattle.std.proofs.lemmas.Bool.Decides.{nat_tests}
use Rattle.std.proofs.lemmas.List.Elements.{All-head, All-tail}
use Rattle.logic3.specs.Wave.{changes_between}
use Rattle.design.specs.Circuit.{Circuit, IsCircuit}
use Rattle.design.specs.Equations.{value_of}
use Rattle.gate_process.specs.Step.{ProcessState}
use Rattle.gate_process.proofs.CallerLemmas.{least-bound}
use Rattle.cmb_kernel.specs.State.{KernelView, IsUndrained, floor_at, is_complete, least_delay, least_frontier, most_rounds}
use Rattle.cmb_kernel.specs.Step.{completed_within, round_of}
use Rattle.cmb_kernel.specs.Sound.{IsSound}
use Rattle.cmb_kernel.proofs.CallerLemmas.{RoundsAlike, falls, frontier_when_complete, is_complete-true, least_tells, no_round_yet, round_more, same_counts, still_alike}
use Rattle.vcd_dump.specs.Spans.{parts_of}
use Rattle.kernel_runs.specs.Drained.{EachFloor, DrainsTo, values_of}
use Rattle.kernel_runs.specs.Paces.{Suits}
use Rattle.kernel_runs.specs.Simulated.{IsKnown}
use Rattle.kernel_runs.specs.declared.pace.Pace.{Pace}
use Rattle.kernel_runs.proofs.Drains.{least_same}

-- what was taken out of nets whose floors were the same are the changes from there on
pub parts_are : (kernel : KernelView) (from to : ℕ) → EachFloor kernel (λ floor. floor ≡ from) → (nets : List ℕ) →
    All (λ net. net < length kernel.circuit) nets →
    map (λ net. changes_between (value_of kernel.circuit net) (floor_at kernel.state net) to) nets ≡ parts_of (values_of kernel.circuit nets) from to
parts_are kernel from to floors [] exist = refl
parts_are kernel from to floors (net ∷ nets) exist =
    let here = floors net (All-head (λ n. n < length kernel.circuit) net nets exist) in
    let rest = parts_are kernel from to floors nets (All-tail (λ n. n < length kernel.circuit) net nets exist) in
    λ i. changes_between (value_of kernel.circuit net) (here i) to ∷ rest i

-- a run led to a kernel of which all was taken out below a tick up to which every net is known
pub record Streamed (ByRounds : Type 0) (start now : KernelView) (written : ℕ) : Type 0 where
  pub run : now ≡ record start { state = now.state }
  pub sound : IsSound now.circuit now.end now.state
  -- where it went on by rounds
  pub rounds : ByRounds → RoundsAlike start.circuit start.end start.state now.state
  pub floors : EachFloor now (λ floor. floor ≡ written)
  pub ahead : written ≤ least_frontier now.end now.state

pub streamed_begins : (ByRounds : Type 0) (start : KernelView) → IsSound start.circuit start.end start.state → IsUndrained start.state →
    Streamed ByRounds start start 0
streamed_begins ByRounds start sound undrained = record {
  run = refl;
  sound = sound;
  rounds = λ by. no_round_yet start.circuit start.end start.state sound;
  floors = λ net below. undrained net;
  ahead = omega arith;
}

-- known to the end of a run, or not yet
pub at_end : {known ticks end last : ℕ} → last ≡ end + 1 → ticks ≡ end → known ≡ ticks + 1 → known ≡ last
at_end ends is whole = omega (arith, ends, is, whole)

pub still_more : {known ticks end last : ℕ} → last ≡ end + 1 → ticks ≡ end → known ≢ ticks + 1 → known ≢ last
still_more ends is more whole = more (omega (arith, ends, is, whole))

-- what was written is all, where all is known
pub all_written : (pace : Pace) (circuit : Circuit) {known to end : ℕ} → ((c : Circuit) → Suits pace c known → to ≡ known) →
    Suits pace circuit end → known ≡ end → to ≡ end
all_written pace circuit whole suits is = whole circuit (subst (Suits pace circuit) (sym is) suits) ∙ is

-- what was written isn't ahead of what is known
pub ahead_of : {written known least : ℕ} → written ≤ least → known ≡ least → written ≤ known
ahead_of ahead is = omega (arith, ahead, is)

-- no frontier is past the end
pub least_within : (kernel : KernelView) → least_frontier kernel.end kernel.state ≤ kernel.end
least_within kernel = least-bound kernel.end (map (λ (p : ProcessState). p.known.frontier) kernel.state.processes)

module _ {ByRounds : Type 0} {start now mid : KernelView} {written : ℕ} (so_far : Streamed ByRounds start now written) (drains : DrainsTo now mid) where
  -- the kernel goes over the same circuit to the same end
  pub same : mid ≡ record start { state = mid.state }
  same = drains.run ∙ ap (λ (k : KernelView). record k { state = mid.state }) so_far.run

  pub led : (next : KernelView) → next ≡ record mid { state = next.state } → next ≡ record start { state = next.state }
  led next goes = goes ∙ ap (λ (k : KernelView). record k { state = next.state }) same

-- what suits a kernel suits each one of the same circuit and end
module _ (pace : Pace) (circuit : Circuit) (end : ℕ) (start now : KernelView) (led : now ≡ record start { state = now.state })
    (over : start.circuit ≡ circuit) (to : start.end ≡ end) where
  pub suits_of : Suits pace circuit end → Suits pace now.circuit now.end
  suits_of suits =
      subst (λ e. Suits pace now.circuit e) (sym (ap (λ (k : KernelView). k.end) led ∙ to))
      (subst (λ c. Suits pace c end) (sym (ap (λ (k : KernelView). k.circuit) led ∙ over)) suits)

  pub suits_still : Suits pace now.circuit now.end → Suits pace circuit end
  suits_still suits =
      subst (λ e. Suits pace circuit e) (ap (λ (k : KernelView). k.end) led ∙ to)
      (subst (λ c. Suits pace c now.end) (ap (λ (k : KernelView). k.circuit) led ∙ over) suits)

-- a run is complete where all is known up to the end
pub complete_is : (now mid : KernelView) (known : ℕ) → DrainsTo now mid → known ≡ least_frontier now.end now.state → (known == now.end) ≡ is_complete mid.state
complete_is now mid known drains is =
    let end = ap (λ (k : KernelView). k.end) drains.run in
    (λ i. (is ∙ sym (least_same now mid drains)) i == sym end i) ∙ least_tells mid.circuit mid.end mid.state drains.sound

-- so then each net is
pub known_to_end : (now mid : KernelView) (known : ℕ) → DrainsTo now mid → known ≡ least_frontier now.end now.state → known ≡ now.end → IsKnown mid
known_to_end now mid known drains is whole net below =
    let done = sym (complete_is now mid known drains is) ∙ eq-eqb known now.end whole in
    frontier_when_complete mid.circuit mid.end mid.state drains.sound (is_complete-true mid.state done) net below

module _ {ByRounds : Type 0} {start now mid : KernelView} {written known to : ℕ} (so_far : Streamed ByRounds start now written) (drains : DrainsTo now mid)
    (is : known ≡ least_frontier now.end now.state) (within : to ≤ known) (floors : EachFloor mid (λ floor. floor ≡ to)) (ok : IsCircuit start.circuit) where
  same_run : mid ≡ record start { state = mid.state }
  same_run = same so_far drains

  alike : ByRounds → RoundsAlike start.circuit start.end start.state mid.state
  alike by = still_alike mid.state drains.alike (so_far.rounds by)

  sound : IsSound start.circuit start.end mid.state
  sound = subst (λ (k : KernelView). IsSound k.circuit k.end mid.state) same_run drains.sound

  module _ (next : KernelView) (goes : next ≡ record mid { state = next.state }) (sound_next : IsSound next.circuit next.end next.state)
      (raised : min mid.end (least_frontier mid.end mid.state + least_delay mid.end mid.circuit) ≤ least_frontier next.end next.state)
      (more : known ≢ now.end) where
    incomplete : is_complete mid.state ≡ false
    incomplete = go (is_complete mid.state) refl
      where
        go : (complete : Bool) → is_complete mid.state ≡ complete → complete ≡ false
        go true e = absurd (more (eqb-true known now.end (complete_is now mid known drains is ∙ e)))
        go false e = refl

    -- it goes on
    pub streamed_more : (ByRounds → next.state ≡ round_of mid.state) → ((net : ℕ) → floor_at next.state net ≡ floor_at mid.state net) →
        Streamed ByRounds start next to
    streamed_more round kept = record {
      run = led so_far drains next goes;
      sound = sound_next;
      rounds = λ by. subst (RoundsAlike start.circuit start.end start.state) (sym (round by))
          (round_more start.circuit ok start.end start.state mid.state (alike by) sound incomplete);
      floors = λ net below. kept net ∙ floors net (subst (λ c. net < length c) (ap (λ (k : KernelView). k.circuit) goes) below);
      ahead =
          let least = least_same now mid drains in
          let most = least_within mid in
          omega (arith, least, most, raised, is, within);
    }

    -- and less is left to the end
    pub streamed_less : next.end - least_frontier next.end next.state < now.end - least_frontier now.end now.state
    streamed_less =
        let end = ap (λ (k : KernelView). k.end) goes in
        let end_now = ap (λ (k : KernelView). k.end) drains.run in
        let least = least_same now mid drains in
        let fell = falls start.circuit ok start.end mid.state (least_frontier next.end next.state) sound incomplete
        (subst (λ (k : KernelView). min k.end (least_frontier k.end mid.state + least_delay k.end k.circuit) ≤ least_frontier next.end next.state) same_run raised) in
        let end_start = ap (λ (k : KernelView). k.end) same_run in
        let least_start = ap (λ (k : KernelView). least_frontier k.end mid.state) same_run in
        omega (arith, fell, end, end_now, least, end_start, least_start)

  -- at the end as much was counted as by rounds alone
  pub counts_are : ByRounds → IsSound start.circuit start.end start.state → known ≡ now.end →
      mid.state.counts ≡ (completed_within (most_rounds start.end start.circuit) start.state).counts
  counts_are by begun whole =
      let ended : (known == now.end) ≡ true = grind (arith, nat_tests) in
      same_counts start.circuit ok start.end start.state mid.state (alike by) begun (sym (complete_is now mid known drains is) ∙ ended)
