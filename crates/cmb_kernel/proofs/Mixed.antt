-- Runs that mix events and drains.
use Rattle.std.proofs.Common.{◌≡◌, ℕ, zero, suc, ◌<◌, ◌≤◌, ◌==◌, Bool, true, false, cond, List, [], ◌∷◌, ◌++◌, map, length, Some, slice_get, slice_index_or, refl, ap, sym, subst, ◌∙◌, arith, append_assoc}
use Rattle.std.specs.Option.{option_map_or}
use Rattle.std.proofs.lemmas.Bool.{eqb-true, eqb-false}
use Rattle.std.proofs.lemmas.Option.{slice_get_within, get_or_from_slice_get}
use Rattle.logic3.specs.declared.change.Change.{Change}
use Rattle.logic3.specs.Wave.{changes_between, wave_of}
use Rattle.logic3.proofs.CallerLemmas.{changes_between-split}
use Rattle.design.specs.Circuit.{Circuit, IsCircuit}
use Rattle.design.specs.Equations.{value_of}
use Rattle.design.specs.Pins.{net_of_pin, place_of_pin}
use Rattle.cmb_channels.specs.declared.message.Message.{Message}
use Rattle.cmb_channels.proofs.CallerLemmas.{map-update, view_at, view_of_update_same, view_of_update_other}
use Rattle.gate_process.specs.Knowledge.{Knowledge}
use Rattle.gate_process.specs.Step.{ProcessState, started_process, advanced, heard, drained, drained_changes}
use Rattle.gate_process.proofs.CallerLemmas.{drained_true, get_below}
use Rattle.cmb_events.specs.declared.event.Event.{Event}
use Rattle.cmb_events.specs.declared.event.Event.TheVariants.{Deliver, Advance}
use Rattle.cmb_kernel.specs.State.{State, started, nets_of, floor_at, IsComplete, is_complete}
use Rattle.cmb_kernel.specs.Step.{step, steps, after_deliver, after_drain, round_events, round_of, completed_within}
use Rattle.cmb_kernel.specs.Sound.{IsSound}
use Rattle.cmb_kernel.specs.Drains.{Action, happens, drains, acted, all_acted, events_among, IsAllowed, CanAct, handed_out, apart_from_waves}
use Rattle.cmb_kernel.proofs.Soundness.{started_sound, step_sound}
use Rattle.cmb_kernel.proofs.LeastFrontier.{net_count}
use Rattle.cmb_kernel.proofs.Drains.{drain_sound}
use Rattle.cmb_kernel.proofs.Alike.{alike_step, alike_drain}

-- ---- soundness

pub acted_sound : (circuit : Circuit) → IsCircuit circuit → (last : ℕ) (state : State) (action : Action) → IsSound circuit last state →
    IsAllowed circuit state action → IsSound circuit last (acted state action)
acted_sound circuit ok last state (happens event) sound allowed = step_sound circuit ok last state event sound allowed
acted_sound circuit ok last state (drains net bound) sound allowed = drain_sound circuit last state sound net bound allowed

pub all_acted_sound : (circuit : Circuit) → IsCircuit circuit → (last : ℕ) (state : State) (actions : List Action) → IsSound circuit last state →
    CanAct circuit state actions → IsSound circuit last (all_acted state actions)
all_acted_sound circuit ok last state [] sound allowed = sound
all_acted_sound circuit ok last state (action ∷ actions) sound allowed =
    all_acted_sound circuit ok last (acted state action) actions (acted_sound circuit ok last state action sound allowed.0) allowed.1

-- ---- a drain plays no part

-- a run with drains goes as one without them, from states that are alike but for what nets show
pub acted_alike : (circuit : Circuit) → IsCircuit circuit → (last : ℕ) (one other : State) (actions : List Action) →
    IsSound circuit last one → IsSound circuit last other → CanAct circuit one actions → apart_from_waves one ≡ apart_from_waves other →
    apart_from_waves (all_acted one actions) ≡ apart_from_waves (steps other (events_among actions))
acted_alike circuit ok last one other [] sound_one sound_other allowed alike = alike
acted_alike circuit ok last one other (happens event ∷ actions) sound_one sound_other allowed alike =
    acted_alike circuit ok last (step one event) (step other event) actions
    (step_sound circuit ok last one event sound_one allowed.0) (step_sound circuit ok last other event sound_other allowed.0) allowed.1
    (alike_step circuit ok last one other event sound_one sound_other alike)
acted_alike circuit ok last one other (drains net bound ∷ actions) sound_one sound_other allowed alike =
    acted_alike circuit ok last (after_drain one net bound) other actions
    (drain_sound circuit last one sound_one net bound allowed.0) sound_other allowed.1 (alike_drain one net bound ∙ alike)

-- ---- floors

-- an event changes no floor
pub step_floor : (state : State) (event : Event) (net : ℕ) → floor_at (step state event) net ≡ floor_at state net
step_floor state (Advance moving) net =
    ap (λ ns. slice_index_or ns net 0) (map-update (λ (p : ProcessState). p.floor) advanced moving state.processes (λ p. refl))
step_floor state (Deliver pin) net = go (slice_index_or state.lists pin [])
  where
    go : (waiting : List Message) → floor_at (after_deliver state pin waiting) net ≡ floor_at state net
    go [] = refl
    go (message ∷ messages) =
        ap (λ ns. slice_index_or ns net 0)
        (map-update (λ (p : ProcessState). p.floor) (heard (place_of_pin (nets_of state) pin) message)
        (net_of_pin (nets_of state) pin) state.processes (λ p. refl))

pub steps_floor : (state : State) (events : List Event) (net : ℕ) → floor_at (steps state events) net ≡ floor_at state net
steps_floor state [] net = refl
steps_floor state (event ∷ events) net = steps_floor (step state event) events net ∙ step_floor state event net

-- so rounds change none
pub completed_floor : (count : ℕ) (state : State) (net : ℕ) → floor_at (completed_within count state) net ≡ floor_at state net
completed_floor zero state net = refl
completed_floor (suc count) state net =
    go (is_complete state) (completed_floor count (round_of state) net ∙ steps_floor state (round_events state) net)
  where
    go : (complete : Bool) → floor_at (completed_within count (round_of state)) net ≡ floor_at state net →
        floor_at (cond complete state (completed_within count (round_of state))) net ≡ floor_at state net
    go true later = refl
    go false later = later

-- a drain makes its bound the floor
drained_floor : (state : State) (net bound : ℕ) (process : ProcessState) → slice_get state.processes net ≡ Some process →
    process.floor ≤ bound → floor_at (after_drain state net bound) net ≡ bound
drained_floor state net bound process at farther =
    view_of_update_same (λ (p : ProcessState). p.floor) (drained bound) net state.processes process at
    ∙ (let is : (drained bound process).floor ≡ bound = omega (arith, farther) in is)

-- ---- what is handed out

-- what was handed out of a net since a state, and what its process has kept, are its changes from the floor that it had
pub record NothingLost (circuit : Circuit) (net from : ℕ) (given : List Change) (process : ProcessState) : Type 0 where
  pub floor : from ≤ process.known.frontier
  pub changes : given ++ process.known.wave.changes ≡ changes_between (value_of circuit net) from process.known.frontier

-- a drain first
drained_before : (circuit : Circuit) (net from bound : ℕ) (first given : List Change) (process : ProcessState) →
    from ≤ bound → first ≡ changes_between (value_of circuit net) from bound → NothingLost circuit net bound given process →
    NothingLost circuit net from (first ++ given) process
drained_before circuit net from bound first given process farther is later =
    let floor = later.floor in
    record {
      floor = omega arith;
      changes =
          append_assoc first given process.known.wave.changes
          ∙ ap (λ xs. first ++ xs) later.changes
          ∙ ap (λ xs. xs ++ changes_between (value_of circuit net) bound process.known.frontier) is
          ∙ sym (changes_between-split (value_of circuit net) from bound process.known.frontier farther floor);
    }

module _ (circuit : Circuit) (ok : IsCircuit circuit) (last net : ℕ) (process : ProcessState) where
  pub nothing_lost : (state : State) (actions : List Action) → IsSound circuit last state → CanAct circuit state actions →
      slice_get (all_acted state actions).processes net ≡ Some process →
      NothingLost circuit net (floor_at state net) (handed_out net state actions) process
  nothing_lost state [] sound allowed at =
      let truth = sound.processes net process at in
      let floor : floor_at state net ≡ process.floor = view_at (λ (p : ProcessState). p.floor) state.processes net process at in
      subst (λ from. NothingLost circuit net from [] process) (sym floor)
      (record { floor = truth.floor; changes = ap (λ (k : Knowledge). k.wave.changes) truth.known })
  nothing_lost state (happens event ∷ actions) sound allowed at =
      subst (λ from. NothingLost circuit net from (handed_out net (step state event) actions) process) (step_floor state event net)
      (nothing_lost (step state event) actions (step_sound circuit ok last state event sound allowed.0) allowed.1 at)
  nothing_lost state (drains other bound ∷ actions) sound allowed at =
      go (other == net) refl
      (nothing_lost (after_drain state other bound) actions (drain_sound circuit last state sound other bound allowed.0) allowed.1 at)
    where
      after : List Change
      after = handed_out net (after_drain state other bound) actions

      there : net < length state.processes
      there =
          let whole = all_acted_sound circuit ok last state (drains other bound ∷ actions) sound allowed in
          let nets = net_count circuit last state sound in
          let nets_after = net_count circuit last (all_acted state (drains other bound ∷ actions)) whole in
          let within = slice_get_within (all_acted state (drains other bound ∷ actions)).processes net process at in
          omega arith

      old : (p : ProcessState) × (slice_get state.processes net ≡ Some p)
      old = get_below state.processes net there

      go : (same : Bool) → (other == net) ≡ same → NothingLost circuit net (floor_at (after_drain state other bound) net) after process →
          NothingLost circuit net (floor_at state net)
          (cond same (option_map_or (drained_changes bound) (slice_get state.processes net) []) [] ++ after) process
      go true e later =
          let is : other ≡ net = eqb-true _ _ e in
          let can = allowed.0 old.0 (subst (λ n. slice_get state.processes n ≡ Some old.0) (sym is) old.1) in
          let floor : floor_at state net ≡ (old.0).floor = view_at (λ (p : ProcessState). p.floor) state.processes net old.0 old.1 in
          let new : floor_at (after_drain state other bound) net ≡ bound =
          ap (λ n. floor_at (after_drain state n bound) net) is ∙ drained_floor state net bound old.0 old.1 can.0 in
          let first : option_map_or (drained_changes bound) (slice_get state.processes net) [] ≡ changes_between (value_of circuit net) (old.0).floor bound =
          ap (λ found. option_map_or (drained_changes bound) found []) old.1
          ∙ drained_true (value_of circuit) net bound old.0 (sound.processes net old.0 old.1) can.0 can.1 in
          drained_before circuit net (floor_at state net) bound _ after process
          (omega (arith, can, floor))
          (first ∙ ap (λ from. changes_between (value_of circuit net) from bound) (sym floor))
          (subst (λ from. NothingLost circuit net from after process) new later)
      go false e later =
          subst (λ from. NothingLost circuit net from after process)
          (view_of_update_other (λ (p : ProcessState). p.floor) (drained bound) other state.processes net (λ same. eqb-false _ _ e (sym same))) later

  -- in a complete run from the start these are all changes of the net
  pub all_given_out : (actions : List Action) → CanAct circuit (started circuit last) actions →
      IsComplete (all_acted (started circuit last) actions) →
      slice_get (all_acted (started circuit last) actions).processes net ≡ Some process →
      handed_out net (started circuit last) actions ++ process.known.wave.changes ≡ (wave_of (value_of circuit net) 0 last).changes
  all_given_out actions allowed complete at =
      (nothing_lost (started circuit last) actions (started_sound circuit last) allowed at).changes
      ∙ ap (λ from. changes_between (value_of circuit net) from process.known.frontier) (started_floor circuit net)
      ∙ ap (changes_between (value_of circuit net) 0) (done ∙ end)
    where
      started_floor : (nets : Circuit) (number : ℕ) →
          slice_index_or (map (λ (p : ProcessState). p.floor) (map (started_process last) nets)) number 0 ≡ 0
      started_floor [] number = refl
      started_floor (first ∷ nets) zero = refl
      started_floor (first ∷ nets) (suc number) = started_floor nets number

      end : process.end ≡ last
      end = (all_acted_sound circuit ok last (started circuit last) actions (started_sound circuit last) allowed).ends net process at

      done : process.known.frontier ≡ process.end
      done =
          let same = get_or_from_slice_get (all_acted (started circuit last) actions).processes net process process at in
          subst (λ (p : ProcessState). p.known.frontier ≡ p.end) same
          (complete net process (slice_get_within (all_acted (started circuit last) actions).processes net process at))
