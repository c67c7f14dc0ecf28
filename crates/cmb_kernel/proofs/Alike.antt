-- States that are alike but for what their nets show go on alike.
use Rattle.std.proofs.Common.{◌≡◌, ℕ, zero, suc, ◌+◌, ◌==◌, Bool, if◌then◌else◌, List, [], ◌∷◌, ◌++◌, map, Option, None, Some, slice_get, slice_index_or, All, refl, ap, sym, ◌∙◌, arith}
use Rattle.std.specs.Option.{option_map, option_map_or}
use Rattle.std.specs.List.{range_with_len, list_all}
use Rattle.std.proofs.lemmas.List.{length-map}
use Rattle.std.proofs.lemmas.List.Elements.{All-head, All-tail}
use Rattle.std.proofs.lemmas.List.Folds.{list_all-map}
use Rattle.std.proofs.lemmas.Option.{slice_get-map}
use Rattle.std.proofs.lemmas.Simd.{map-map}
use Rattle.logic3.specs.declared.value.Value.{Value}
use Rattle.logic3.specs.Wave.{changes_between}
use Rattle.logic3.proofs.CallerLemmas.{changes_between-same}
use Rattle.design.specs.Circuit.{Circuit, IsCircuit}
use Rattle.design.specs.Equations.{value_of}
use Rattle.design.specs.Pins.{sources_of, net_of_pin, place_of_pin}
use Rattle.cmb_channels.specs.declared.message.Message.{Message}
use Rattle.cmb_channels.specs.Lists.{update, sent, taken}
use Rattle.cmb_channels.proofs.CallerLemmas.{map-update}
use Rattle.gate_process.specs.Knowledge.{Knowledge, news_of}
use Rattle.gate_process.specs.Step.{ProcessState, least, next_frontier, kept, all_kept, reckoned, extended, advanced, news, heard, drained}
use Rattle.gate_process.specs.Truth.{Meets, KnowsTruth}
use Rattle.gate_process.proofs.CallerLemmas.{before_true, reckoned_true}
use Rattle.cmb_events.specs.declared.event.Event.{Event}
use Rattle.cmb_events.specs.declared.event.Event.TheVariants.{Deliver, Advance}
use Rattle.cmb_events.specs.Schedule.{Exists}
use Rattle.cmb_kernel.specs.State.{State, nets_of, least_frontier, is_complete}
use Rattle.cmb_kernel.specs.Step.{counted, news_at, step, steps, after_deliver, after_drain, deliveries_from, round_events, with_round, round_of}
use Rattle.cmb_kernel.specs.Sound.{IsSound}
use Rattle.cmb_kernel.specs.Drains.{apart_from_wave, apart_from_waves}
use Rattle.cmb_kernel.proofs.Soundness.{net_at, meets_at, step_sound}
use Rattle.cmb_kernel.proofs.LeastFrontier.{round_exists}

-- ---- what a process tells

-- the messages that tell of a signal, from what a process knows up to what it can reckon
abbrev pub true_news : (ℕ → Value) → ProcessState → List Message
true_news signal process =
    if next_frontier process == process.known.frontier then [] else
    news_of (changes_between signal process.known.frontier (next_frontier process)) (next_frontier process)

module _ (signals : ℕ → ℕ → Value) (number : ℕ) (process : ProcessState) (meets : Meets signals number process.net)
    (h : KnowsTruth signals number process) where
  -- what it tells depends on the signal, and not on what it has kept of it
  pub news_are : news process ≡ true_news (signals number) process
  news_are =
      let floor = h.floor in
      let ahead = h.ahead in
      ap (λ changes. if next_frontier process == process.known.frontier then [] else news_of changes (next_frontier process))
      (changes_between-same (reckoned process) (signals number) process.known.frontier (next_frontier process)
      (before_true signals number process meets h process.known.frontier floor (omega arith))
      (λ tick from below. reckoned_true signals number process meets h tick (omega arith) below))

-- ---- a process but for what its net shows

-- what is kept of the pins doesn't depend on the waveform
all_kept_alike : (process : ProcessState) (place : ℕ) (received : List Knowledge) →
    all_kept process place received ≡ all_kept (apart_from_wave process) place received
all_kept_alike process place [] = refl
all_kept_alike process place (known ∷ received) = ap (λ ks. kept process place known ∷ ks) (all_kept_alike process (place + 1) received)

-- what an Advance makes of the rest doesn't depend on the waveform
advanced_alike : (process : ProcessState) → apart_from_wave (advanced process) ≡ apart_from_wave (advanced (apart_from_wave process))
advanced_alike process =
    ap (λ ks. record (apart_from_wave (extended process)) { received = ks })
    (all_kept_alike (extended process) 0 process.received ∙ sym (all_kept_alike (extended (apart_from_wave process)) 0 process.received))

-- a view of a changed list is the view of the list, changed
map-update-through : {A B : Type 0} (view : A → B) (change : A → A) (after : B → B) (place : ℕ) (xs : List A) →
    ((x : A) → view (change x) ≡ after (view x)) → map view (update change place xs) ≡ update after place (map view xs)
map-update-through view change after place [] h = refl
map-update-through view change after zero (x ∷ xs) h = ap (λ y. y ∷ map view xs) (h x)
map-update-through view change after (suc place) (x ∷ xs) h = ap (λ ys. view x ∷ ys) (map-update-through view change after place xs h)

-- ---- a step, but for what nets show

-- the same nets are there
nets_apart : (state : State) → nets_of (apart_from_waves state) ≡ nets_of state
nets_apart state = map-map (λ (p : ProcessState). p.net) apart_from_wave state.processes

-- what a net tells, by its process but for what the net shows
abbrev news_apart : Circuit → State → ℕ → List Message
news_apart circuit state net = option_map_or (true_news (value_of circuit net)) (slice_get state.processes net) []

-- what an event makes of a state when it isn't known what the nets show
abbrev step_apart : Circuit → State → Event → State
step_apart circuit state (Deliver pin) = step state (Deliver pin)
step_apart circuit state (Advance net) =
    record {
      processes = update (λ (process : ProcessState). apart_from_wave (advanced process)) net state.processes;
      lists = sent net (news_apart circuit state net) (sources_of (nets_of state)) state.lists;
      counts = counted state.counts (news_apart circuit state net);
    }

-- a delivery asks for nothing that nets show
deliver_apart : (state : State) (pin : ℕ) (waiting : List Message) →
    apart_from_waves (after_deliver state pin waiting) ≡ after_deliver (apart_from_waves state) pin waiting
deliver_apart state pin [] = refl
deliver_apart state pin (message ∷ messages) =
    ap (λ ps. record { processes = ps; lists = taken pin state.lists; counts = counted state.counts [] })
    (map-update-through apart_from_wave (heard (place_of_pin (nets_of state) pin) message) (heard (place_of_pin (nets_of state) pin) message)
    (net_of_pin (nets_of state) pin) state.processes (λ p. refl)
    ∙ ap (λ c. update (heard (place_of_pin c pin) message) (net_of_pin c pin) (map apart_from_wave state.processes)) (sym (nets_apart state)))

module _ (circuit : Circuit) (ok : IsCircuit circuit) (last : ℕ) where
  -- an Advance asks for news alone, and those are true
  news_at_apart : (state : State) → IsSound circuit last state → (net : ℕ) → news_at state net ≡ news_apart circuit (apart_from_waves state) net
  news_at_apart state sound net =
      go (slice_get state.processes net) refl
      ∙ ap (λ found. option_map_or (true_news (value_of circuit net)) found []) (sym (slice_get-map apart_from_wave state.processes net))
    where
      go : (found : Option ProcessState) → slice_get state.processes net ≡ found →
          option_map_or news found [] ≡ option_map_or (true_news (value_of circuit net)) (option_map apart_from_wave found) []
      go None e = refl
      go (Some process) e =
          news_are (value_of circuit) net process
          (meets_at circuit ok net process.net (net_at circuit ok last state sound net process e)) (sound.processes net process e)

  stepped_apart : (state : State) (event : Event) → IsSound circuit last state →
      apart_from_waves (step state event) ≡ step_apart circuit (apart_from_waves state) event
  stepped_apart state (Deliver pin) sound = deliver_apart state pin (slice_index_or state.lists pin [])
  stepped_apart state (Advance net) sound =
      let processes : map apart_from_wave (update advanced net state.processes)
      ≡ update (λ (p : ProcessState). apart_from_wave (advanced p)) net (map apart_from_wave state.processes) =
      map-update-through apart_from_wave advanced (λ (p : ProcessState). apart_from_wave (advanced p)) net state.processes advanced_alike in
      let news = news_at_apart state sound net in
      let nets = nets_apart state in
      λ i. record {
        processes = processes i;
        lists = sent net (news i) (sources_of (sym nets i)) state.lists;
        counts = counted state.counts (news i);
      }

  -- two states that are alike but for what nets show stay so: by an event, by some events, by a round
  pub alike_step : (one other : State) (event : Event) → IsSound circuit last one → IsSound circuit last other →
      apart_from_waves one ≡ apart_from_waves other → apart_from_waves (step one event) ≡ apart_from_waves (step other event)
  alike_step one other event sound_one sound_other alike =
      stepped_apart one event sound_one ∙ ap (λ s. step_apart circuit s event) alike ∙ sym (stepped_apart other event sound_other)

  pub alike_steps : (one other : State) (events : List Event) → IsSound circuit last one → IsSound circuit last other →
      All (Exists circuit) events → apart_from_waves one ≡ apart_from_waves other →
      apart_from_waves (steps one events) ≡ apart_from_waves (steps other events)
  alike_steps one other [] sound_one sound_other exist alike = alike
  alike_steps one other (event ∷ events) sound_one sound_other exist alike =
      let there = All-head (Exists circuit) event events exist in
      alike_steps (step one event) (step other event) events
      (step_sound circuit ok last one event sound_one there) (step_sound circuit ok last other event sound_other there)
      (All-tail (Exists circuit) event events exist) (alike_step one other event sound_one sound_other alike)

  pub alike_round : (one other : State) → IsSound circuit last one → IsSound circuit last other →
      apart_from_waves one ≡ apart_from_waves other → apart_from_waves (round_of one) ≡ apart_from_waves (round_of other)
  alike_round one other sound_one sound_other alike =
      ap with_round (
      alike_steps one other (round_events one) sound_one sound_other (round_exists circuit last one sound_one) alike
      ∙ ap (λ events. apart_from_waves (steps other events)) (same_events one other alike))
    where
      same_events : (one other : State) → apart_from_waves one ≡ apart_from_waves other → round_events one ≡ round_events other
      same_events one other alike =
          ap (λ n. deliveries_from 0 one.lists ++ map Advance (range_with_len 0 n)) (sym (length-map one.processes apart_from_wave))
          ∙ ap round_events alike
          ∙ ap (λ n. deliveries_from 0 other.lists ++ map Advance (range_with_len 0 n)) (length-map other.processes apart_from_wave)

-- a drain changes only what a net shows, and from which tick on
pub alike_drain : (state : State) (net bound : ℕ) → apart_from_waves (after_drain state net bound) ≡ apart_from_waves state
alike_drain state net bound =
    ap (λ ps. record state { processes = ps }) (map-update apart_from_wave (drained bound) net state.processes (λ p. refl))

-- ---- what alike states have in common

module _ (one other : State) (alike : apart_from_waves one ≡ apart_from_waves other) where
  pub alike_counts : one.counts ≡ other.counts
  alike_counts = ap (λ (s : State). s.counts) alike

  -- what doesn't depend on what nets show is the same for all nets
  pub alike_views : {B : Type 0} (view : ProcessState → B) → ((process : ProcessState) → view (apart_from_wave process) ≡ view process) →
      map view one.processes ≡ map view other.processes
  alike_views view h = shown one ∙ ap (λ (s : State). map view s.processes) alike ∙ sym (shown other)
    where
      shown_of : (ps : List ProcessState) → map view ps ≡ map view (map apart_from_wave ps)
      shown_of [] = refl
      shown_of (p ∷ ps) = let first = sym (h p) in let rest = shown_of ps in λ i. first i ∷ rest i

      shown : (state : State) → map view state.processes ≡ map view (apart_from_waves state).processes
      shown state = shown_of state.processes

  pub alike_least : (last : ℕ) → least_frontier last one ≡ least_frontier last other
  alike_least last = ap (least last) (alike_views (λ (p : ProcessState). p.known.frontier) (λ p. refl))

  pub alike_complete : is_complete one ≡ is_complete other
  alike_complete =
      sym (list_all-map is_known apart_from_wave one.processes)
      ∙ ap (λ (s : State). list_all is_known s.processes) alike
      ∙ list_all-map is_known apart_from_wave other.processes
    where
      is_known : ProcessState → Bool
      is_known process = process.known.frontier == process.end
