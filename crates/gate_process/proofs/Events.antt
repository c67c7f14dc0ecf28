-- A process that knows the truth goes on to know it.
use Rattle.std.proofs.Common.{◌≡◌, ℕ, zero, suc, ◌+◌, ◌<◌, ◌≤◌, List, [], ◌∷◌, length, map, Some, slice_get, refl, ap, sym, subst, ◌∙◌, arith, inl, inr}
use Rattle.std.proofs.lemmas.List.{length-map}
use Rattle.logic3.specs.declared.value.Value.{Value}
use Rattle.logic3.specs.Wave.{value_at}
use Rattle.design.specs.Circuit.{Net}
use Rattle.design.specs.Equations.{equation}
use Rattle.timing_text.specs.Ranges.{HasClock, most_ticks}
use Rattle.cmb_channels.specs.declared.message.Message.{Message}
use Rattle.cmb_channels.proofs.CallerLemmas.{length-update, IsUpdated, get_of_update}
use Rattle.gate_process.specs.Knowledge.{Knowledge, nothing_known, knowledge_of, told, forgetting, Tells}
use Rattle.gate_process.specs.Step.{ProcessState, least_or, seen_by, safe_of, signals_of, frontier_of, next_frontier, started_process, reckoned, kept_from, kept, extended, advanced, heard}
use Rattle.gate_process.specs.Truth.{Meets, KnowsTruth, IsNet, IsProcess}
use Rattle.gate_process.proofs.Kept.{length-all_kept, get_of_kept, kept_farther}
use Rattle.gate_process.proofs.Told.{forgetting_truth, kept_truth, HeardTruth, heard_truth}
use Rattle.gate_process.proofs.Frontiers.{frontier-mono}
use Rattle.gate_process.proofs.Reach.{sure-end, reach-ahead, next-asked}
use Rattle.gate_process.proofs.SeenPins.{frontiers-seen_kept, safe-update}
use Rattle.gate_process.proofs.Reckoned.{advanced_true}

pub get_below : {A : Type 0} (xs : List A) (place : ℕ) → place < length xs → (x : A) × (slice_get xs place ≡ Some x)
get_below [] place h = absurd (omega arith)
get_below (x ∷ xs) zero h = (x, refl)
get_below (x ∷ xs) (suc place) h = get_below xs place (omega arith)

pub get_of_map : {A B : Type 0} (view : A → B) (xs : List A) (at : ℕ) (y : B) → slice_get (map view xs) at ≡ Some y →
    (x : A) × (slice_get xs at ≡ Some x) × (y ≡ view x)
get_of_map view [] at y e = cc
get_of_map view (x ∷ xs) zero y e = (x, refl, cc)
get_of_map view (x ∷ xs) (suc at) y e = get_of_map view xs at y e

pub advanced-safe : (process : ProcessState) → safe_of (advanced process) ≡ safe_of process
advanced-safe process = ap (least_or process.end) (frontiers-seen_kept (extended process) 0 process.net.wires process.received)

-- what it reached it reaches again
advanced-ahead : (process : ProcessState) → next_frontier process ≤ next_frontier (advanced process)
advanced-ahead process =
    let same = ap (λ s. frontier_of process.net process.end s) (advanced-safe process) in
    reach-ahead (equation process.net (signals_of (seen_by process))) (equation process.net (signals_of (seen_by (advanced process))))
    process.net.part process.end process.known.frontier (next_frontier process)
    (frontier_of process.net process.end (safe_of process)) (frontier_of process.net process.end (safe_of (advanced process)))
    (omega (arith, same)) (sure-end (advanced process)) (omega arith)

-- where a message raises what is known of a pin, a process reaches what it did
heard-ahead : (process : ProcessState) (place : ℕ) (message : Message) → HasClock process.net.part process.net.timing →
    process.known.frontier ≤ next_frontier process →
    ((known : Knowledge) → slice_get process.received place ≡ Some known → known.frontier ≤ (told known message).frontier) →
    process.known.frontier ≤ next_frontier (heard place message process)
heard-ahead process place message clock ahead raises =
    reach-ahead (equation process.net (signals_of (seen_by process)))
    (equation process.net (signals_of (seen_by (heard place message process))))
    process.net.part process.end process.known.frontier process.known.frontier
    (frontier_of process.net process.end (safe_of process)) (frontier_of process.net process.end (safe_of (heard place message process)))
    (frontier-mono process.net process.end (safe_of process) (safe_of (heard place message process)) clock
    (safe-update process.end process.net.wires process.received place (λ (known : Knowledge). kept process place (told known message)) raises))
    (sure-end (heard place message process)) ahead

-- an Advance keeps the truth
pub advanced_knows : (signals : ℕ → ℕ → Value) (number : ℕ) (process : ProcessState) → Meets signals number process.net →
    KnowsTruth signals number process → KnowsTruth signals number (advanced process)
advanced_knows signals number process meets h =
    let floor = h.floor in
    let ahead = h.ahead in
    record {
      pins = length-all_kept (extended process) 0 process.received ∙ h.pins;
      floor = omega arith;
      ahead = advanced-ahead process;
      asked = λ tick asked a b is. next-asked process tick asked meets.timed.timing.clock a b is;
      known = advanced_true signals number process meets h;
      heard = λ place source received a b.
          let old = get_of_kept (extended process) process.received place received b in
          let so_far = h.heard place source old.0 a old.1 in
          subst (λ (r : Knowledge). r ≡ knowledge_of (signals source) (kept_from (extended process) place r.frontier) r.frontier)
          (sym old.2)
          (kept_truth (signals source) (extended process) place (kept_from process place (old.0).frontier) old.0 so_far
          (kept_farther process (extended process) place (old.0).frontier refl ahead));
    }

-- a message that tells the truth keeps it
pub heard_knows : (signals : ℕ → ℕ → Value) (number : ℕ) (process : ProcessState) (place source to : ℕ) (received : Knowledge)
    (message : Message) (rest : List Message) → Meets signals number process.net → KnowsTruth signals number process →
    slice_get process.net.pins place ≡ Some source → slice_get process.received place ≡ Some received →
    Tells (signals source) received.frontier to (message ∷ rest) → KnowsTruth signals number (heard place message process)
heard_knows signals number process place source to received message rest meets h at_pin at_received tells =
    record {
      pins = length-update change place process.received ∙ h.pins;
      floor = h.floor;
      ahead = heard-ahead process place message meets.timed.timing.clock h.ahead (λ known e.
          let same : known ≡ received = cc in
          let up : received.frontier < (told received message).frontier = now.raised in
          subst (λ (k : Knowledge). k.frontier ≤ (told k message).frontier) (sym same) (omega arith));
      asked = h.asked;
      known = h.known;
      heard = λ place' source' received' a b. go place' source' received' a (get_of_update change place process.received place' received' b);
    }
  where
    change : Knowledge → Knowledge
    change = λ (known : Knowledge). kept process place (told known message)

    now : HeardTruth (signals source) process place to received (told received message) rest
    now = heard_truth (signals source) process place to received message rest
        (h.heard place source received at_pin at_received) tells

    go : (place' source' : ℕ) (received' : Knowledge) → slice_get process.net.pins place' ≡ Some source' →
        IsUpdated change place process.received place' received' →
        received' ≡ knowledge_of (signals source') (kept_from process place' received'.frontier) received'.frontier
    go place' source' received' a (inl same) =
        let same_received : same.1.0 ≡ received = (let x = same.1.1 in cc) in
        let is : received' ≡ kept process place (told received message) = same.1.2 ∙ ap change same_received in
        let from : source' ≡ source = (let p = same.0 in let q = ap (λ n. slice_get process.net.pins n) p in cc) in
        subst (λ n. received' ≡ knowledge_of (signals source') (kept_from process n received'.frontier) received'.frontier) (sym same.0)
        (subst (λ (r : Knowledge). r ≡ knowledge_of (signals source') (kept_from process place r.frontier) r.frontier) (sym is)
        (subst (λ s. kept process place (told received message)
        ≡ knowledge_of (signals s) (kept_from process place (told received message).frontier) (told received message).frontier)
        (sym from) now.kept_known))
    go place' source' received' a (inr other) = h.heard place' source' received' a other.1

-- ---- processes without any truth

-- forgetting once is enough
pub forgetting_again : (tick : ℕ) (known : Knowledge) → tick ≤ known.frontier → forgetting tick (forgetting tick known) ≡ forgetting tick known
forgetting_again tick known h = forgetting_truth (value_at known.wave) tick tick known.frontier (omega arith) h

pub kept_again : (process : ProcessState) (place : ℕ) (known : Knowledge) → kept process place (kept process place known) ≡ kept process place known
kept_again process place known = forgetting_again (kept_from process place known.frontier) known (omega arith)

pub started_is_process : (end : ℕ) (net : Net) → IsNet net → end ≤ most_ticks + 1 → IsProcess (started_process end net)
started_is_process end net ok last = record {
  timed = ok.timed;
  arity = ok.arity;
  end = last;
  pins = length-map net.pins (λ (pin : ℕ). nothing_known);
  floor = omega arith;
  ahead = omega arith;
  asked = λ tick asked a b is. omega arith;
  known = refl;
  heard = λ place received e.
      let nothing : received ≡ nothing_known = (get_of_map (λ (pin : ℕ). nothing_known) net.pins place received e).2 in
      subst (λ r. r ≡ kept (started_process end net) place r) (sym nothing)
      (ap (λ k. forgetting k nothing_known) (let z : 0 ≡ kept_from (started_process end net) place 0 = omega arith in z));
}

pub advanced_is_process : (process : ProcessState) → IsProcess process → IsProcess (advanced process)
advanced_is_process process h =
    let floor = h.floor in
    let ahead = h.ahead in
    record {
      timed = h.timed;
      arity = h.arity;
      end = h.end;
      pins = length-all_kept (extended process) 0 process.received ∙ h.pins;
      floor = omega arith;
      ahead = advanced-ahead process;
      asked = λ tick asked a b is. next-asked process tick asked h.timed.timing.clock a b is;
      known = sym (forgetting_truth (reckoned process) process.floor process.floor (next_frontier process) (omega arith) (omega arith));
      heard = λ place received b.
          let old = get_of_kept (extended process) process.received place received b in
          subst (λ r. r ≡ kept (extended process) place r) (sym old.2) (sym (kept_again (extended process) place old.0));
    }

pub heard_is_process : (process : ProcessState) (place : ℕ) (message : Message) → IsProcess process →
    ((known : Knowledge) → slice_get process.received place ≡ Some known → known.frontier ≤ (told known message).frontier) →
    IsProcess (heard place message process)
heard_is_process process place message h raises =
    record {
      timed = h.timed;
      arity = h.arity;
      end = h.end;
      pins = length-update change place process.received ∙ h.pins;
      floor = h.floor;
      ahead = heard-ahead process place message h.timed.timing.clock h.ahead raises;
      asked = h.asked;
      known = h.known;
      heard = λ place' received e. go place' received (get_of_update change place process.received place' received e);
    }
  where
    change : Knowledge → Knowledge
    change = λ (known : Knowledge). kept process place (told known message)

    go : (place' : ℕ) (received : Knowledge) → IsUpdated change place process.received place' received → received ≡ kept process place' received
    go place' received (inl same) =
        subst (λ n. received ≡ kept process n received) (sym same.0)
        (subst (λ r. r ≡ kept process place r) (sym same.1.2) (sym (kept_again process place (told same.1.0 message))))
    go place' received (inr other) = h.heard place' received other.1
