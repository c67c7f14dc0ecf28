-- What advances tell of a net is its waveform.
use Rattle.std.proofs.Common.{◌≡◌, ℕ, zero, suc, ◌-◌, ◌*◌, ◌<◌, ◌≤◌, ◌==◌, Bool, true, false, cond, List, [], ◌∷◌, ◌++◌, length, slice_get, slice_index_or, flat_map, All, refl, ap, sym, subst, ◌∙◌, arith, append-nil, eqb-true}
use Rattle.std.specs.List.{range_with_len}
use Rattle.std.specs.Option.{option_map_or}
use Rattle.std.proofs.lemmas.Bool.{eqb-false}
use Rattle.std.proofs.lemmas.Grind.{flat_map-append}
use Rattle.std.proofs.lemmas.List.Elements.{All-cons, All-head, All-nil, All-tail}
use Rattle.logic3.specs.declared.value.Value.{Value}
use Rattle.logic3.specs.Wave.{change_at, changes_between, wave_of}
use Rattle.logic3.proofs.CallerLemmas.{changes_between-split}
use Rattle.design.specs.Circuit.{Circuit, IsCircuit}
use Rattle.design.specs.Equations.{value_of}
use Rattle.design.specs.Pins.{net_of_pin, place_of_pin}
use Rattle.cmb_channels.specs.declared.message.Message.{Message}
use Rattle.cmb_channels.proofs.CallerLemmas.{map-update, view_of_update_other}
use Rattle.gate_process.specs.Step.{ProcessState, advanced, news, heard}
use Rattle.gate_process.proofs.CallerLemmas.{news_true}
use Rattle.cmb_events.specs.declared.event.Event.{Event}
use Rattle.cmb_events.specs.declared.event.Event.TheVariants.{Deliver, Advance}
use Rattle.cmb_events.specs.Schedule.{Exists}
use Rattle.cmb_kernel.specs.State.{State, started, nets_of, frontier_at, is_complete, IsComplete, least_delay, most_rounds}
use Rattle.cmb_kernel.specs.Step.{after_deliver, step, steps, round_events, round_of, rounds, completed_within}
use Rattle.cmb_kernel.specs.Sound.{IsSound}
use Rattle.cmb_kernel.specs.Useful.{NoneFalls}
use Rattle.cmb_kernel.proofs.CallerLemmas.{completes, frontier_when_complete, meets, round_exists, started_frontier}
use Rattle.event_trace.specs.Lines.{Line, ends}
use Rattle.event_trace.specs.Shown.{changes_in, told_of, changes_told_of}
use Rattle.event_trace.specs.Trace.{line_of, lines_of, round_lines, lines_within, trace_lines}
use Rattle.event_trace.proofs.Completing.{most_enough}
use Rattle.event_trace.proofs.News.{frontier_after, frontier_before, process_at, told_changes}

-- no changes between a tick and itself
none_between : (signal : ℕ → Value) (from to : ℕ) → from ≡ to → changes_between signal from to ≡ []
none_between signal from to same =
    let none : to - from ≡ 0 = omega arith in ap (λ n. flat_map (change_at signal) (range_with_len from n)) none

-- a delivery moves no frontier of a net
deliver_frontier : (state : State) (pin net : ℕ) (waiting : List Message) → frontier_at (after_deliver state pin waiting) net ≡ frontier_at state net
deliver_frontier state pin net [] = refl
deliver_frontier state pin net (message ∷ messages) =
    ap (λ frontiers. slice_index_or frontiers net 0)
    (map-update (λ (p : ProcessState). p.known.frontier) (heard (place_of_pin (nets_of state) pin) message) (net_of_pin (nets_of state) pin)
    state.processes (λ p. refl))

-- what a run's laws say
pub record Laws (circuit : Circuit) (last : ℕ) : Type 0 where
  pub sound : (state : State) → IsSound circuit last state → (events : List Event) → All (Exists circuit) events → IsSound circuit last (steps state events)
  pub falls : (state : State) → IsSound circuit last state → (event : Event) → Exists circuit event → NoneFalls state (step state event)

module _ (circuit : Circuit) (ok : IsCircuit circuit) (last : ℕ) (laws : Laws circuit last) (net : ℕ) (below : net < length circuit) where
  -- what a line tells is what the net shows between its frontiers
  event_tells : (state : State) → IsSound circuit last state → (event : Event) →
      changes_between (value_of circuit net) (frontier_at state net) (frontier_at (step state event) net) ≡ told_of net (line_of state event)
  event_tells state sound (Deliver pin) =
      none_between (value_of circuit net) (frontier_at state net) (frontier_at (step state (Deliver pin)) net)
      (sym (deliver_frontier state pin net (slice_index_or state.lists pin [])))
  event_tells state sound (Advance other) = go (other == net) refl
    where
      own : changes_between (value_of circuit net) (frontier_at state net) (frontier_at (step state (Advance net)) net)
          ≡ changes_in (option_map_or news (slice_get state.processes net) [])
      own =
          let mine = process_at circuit ok last state sound net below in
          (λ i. changes_between (value_of circuit net) (frontier_before circuit ok last state sound net mine.0 mine.1 i)
          (frontier_after circuit ok last state sound net mine.0 mine.1 i))
          ∙ told_changes (value_of circuit net) _ _ (news mine.0)
          (news_true (value_of circuit) net mine.0 (meets circuit ok last state sound net mine.0 mine.1) (sound.processes net mine.0 mine.1))
          ∙ ap (λ place. changes_in (option_map_or news place [])) (sym mine.1)

      go : (same : Bool) → (other == net) ≡ same →
          changes_between (value_of circuit net) (frontier_at state net) (frontier_at (step state (Advance other)) net)
          ≡ cond same (changes_in (option_map_or news (slice_get state.processes other) [])) []
      go true e =
          subst (λ n. changes_between (value_of circuit net) (frontier_at state net) (frontier_at (step state (Advance n)) net)
          ≡ changes_in (option_map_or news (slice_get state.processes n) [])) (sym (eqb-true other net e)) own
      go false e =
          none_between (value_of circuit net) (frontier_at state net) (frontier_at (step state (Advance other)) net)
          (sym (view_of_update_other (λ (p : ProcessState). p.known.frontier) advanced other state.processes net
          (λ same. eqb-false other net e (sym same))))

  -- some lines tell what the net shows between the frontiers of two states
  record Tells (old new : State) (lines : List Line) : Type 0 where
    pub ahead : frontier_at old net ≤ frontier_at new net
    pub tells : changes_told_of net lines ≡ changes_between (value_of circuit net) (frontier_at old net) (frontier_at new net)

  tells_none : (state : State) → Tells state state []
  tells_none state = record { ahead = omega arith; tells = sym (none_between (value_of circuit net) (frontier_at state net) (frontier_at state net) refl) }

  tells_more : (old mid new : State) (xs ys : List Line) → Tells old mid xs → Tells mid new ys → Tells old new (xs ++ ys)
  tells_more old mid new xs ys first second =
      let one = first.ahead in
      let other = second.ahead in
      record {
        ahead = omega (arith, one, other);
        tells = flat_map-append (told_of net) xs ys ∙ (λ i. first.tells i ++ second.tells i)
            ∙ sym (changes_between-split (value_of circuit net) (frontier_at old net) (frontier_at mid net) (frontier_at new net) one other);
      }

  events_tell : (state : State) → IsSound circuit last state → (events : List Event) → All (Exists circuit) events →
      Tells state (steps state events) (lines_of state events)
  events_tell state sound [] exist = tells_none state
  events_tell state sound (event ∷ events) exist =
      let here = All-head (Exists circuit) event events exist in
      let after = laws.sound state sound (event ∷ []) (All-cons (Exists circuit) event [] here (All-nil (Exists circuit))) in
      tells_more state (step state event) (steps (step state event) events) (line_of state event ∷ []) (lines_of (step state event) events)
      (record {
        ahead = (laws.falls state sound event here).nets net;
        tells = append-nil (told_of net (line_of state event)) ∙ sym (event_tells state sound event);
      })
      (events_tell (step state event) after events (All-tail (Exists circuit) event events exist))

  round_tells : (state : State) → IsSound circuit last state → Tells state (round_of state) (round_lines state)
  round_tells state sound =
      let told = events_tell state sound (round_events state) (round_exists circuit last state sound) in
      record { ahead = told.ahead; tells = told.tells }

  round_sound : (state : State) → IsSound circuit last state → IsSound circuit last (round_of state)
  round_sound state sound =
      let after = laws.sound state sound (round_events state) (round_exists circuit last state sound) in
      record { nets = after.nets; lists = after.lists; ends = after.ends; processes = after.processes; waiting = after.waiting }

  -- rounds until the run is complete
  record Ends (old new : State) (lines : List Line) : Type 0 where
    pub sound : IsSound circuit last new
    pub told : Tells old new lines

  rounds_tell : (count : ℕ) (state : State) → IsSound circuit last state → Ends state (completed_within count state) (lines_within count state)
  rounds_tell zero state sound = record { sound = sound; told = tells_none state }
  rounds_tell (suc count) state sound = go (is_complete state) (rounds_tell count (round_of state) (round_sound state sound))
    where
      go : (complete : Bool) → Ends (round_of state) (completed_within count (round_of state)) (lines_within count (round_of state)) →
          Ends state (cond complete state (completed_within count (round_of state))) (cond complete [] (round_lines state ++ lines_within count (round_of state)))
      go true rest = record { sound = sound; told = tells_none state }
      go false rest = record {
        sound = rest.sound;
        told = tells_more state (round_of state) (completed_within count (round_of state)) (round_lines state) (lines_within count (round_of state))
            (round_tells state sound) rest.told;
      }

-- ---- the beginning and the end

pub waveform_told : (circuit : Circuit) → IsCircuit circuit → (end : ℕ) → Laws circuit end → IsSound circuit end (started circuit end) →
    ((state : State) → IsSound circuit end state → (count : ℕ) → end ≤ count * least_delay end circuit → IsComplete (rounds count state)) →
    (events : List Event) → All (Exists circuit) events → (net : ℕ) → net < length circuit →
    changes_told_of net (trace_lines circuit end events) ≡ (wave_of (value_of circuit net) 0 end).changes
waveform_told circuit ok end laws sound enough events exist net below =
    let start = started circuit end in
    let most = most_rounds end circuit in
    let after = steps start events in
    let sound_after = laws.sound start sound events exist in
    let first = events_tell circuit ok end laws net below start sound events exist in
    let second = rounds_tell circuit ok end laws net below most after sound_after in
    let all = tells_more circuit ok end laws net below start after (completed_within most after) (lines_of start events) (lines_within most after) first second.told in
    let complete = completes most after (enough after sound_after most (most_enough circuit ok end)) in
    let begins_at = started_frontier end circuit net in
    let ends_at = frontier_when_complete circuit end (completed_within most after) second.sound complete net below in
    flat_map-append (told_of net) (lines_of start events ++ lines_within most after) (ends (completed_within most after).counts ∷ [])
    ∙ append-nil _ ∙ all.tells ∙ (λ i. changes_between (value_of circuit net) (begins_at i) (ends_at i))
