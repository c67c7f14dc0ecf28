-- Runs in which nets are drained between the events.
use Rattle.std.specs.Prelude.{◌≡◌, ℕ, ◌==◌, if◌then◌else◌, List, [], ◌∷◌, ◌++◌, map, slice_get}
use Rattle.std.specs.Option.{option_map_or}
use Rattle.logic3.specs.declared.value.Value.TheVariants.{Unknown}
use Rattle.logic3.specs.declared.change.Change.{Change}
use Rattle.logic3.specs.Wave.{changes_between}
use Rattle.design.specs.Circuit.{Circuit, IsCircuit}
use Rattle.design.specs.Equations.{value_of}
use Rattle.gate_process.specs.Step.{ProcessState, drained_changes}
use Rattle.cmb_events.specs.declared.event.Event.{Event}
use Rattle.cmb_events.specs.Schedule.{Exists}
use Rattle.cmb_kernel.specs.State.{State, started, IsComplete}
use Rattle.cmb_kernel.specs.Step.{step, after_drain}
use Rattle.cmb_kernel.specs.Sound.{EachNet, CanDrain, IsSound}

-- what is done to a run: an event is applied, or the changes of a net before a tick are taken out
pub data Action : Type 0 where
  happens : (event : Event) → Action
  drains : (net bound : ℕ) → Action

-- the state after an action
abbrev pub acted : State → Action → State
acted state (happens event) = step state event
acted state (drains net bound) = after_drain state net bound

-- the state after some actions
abbrev pub all_acted : State → List Action → State
all_acted state [] = state
all_acted state (action ∷ actions) = all_acted (acted state action) actions

-- the events among some actions
abbrev pub events_among : List Action → List Event
events_among [] = []
events_among (happens event ∷ actions) = event ∷ events_among actions
events_among (drains net bound ∷ actions) = events_among actions

-- an event names a pin or a net that exists; a drain goes no further back than an earlier one, and not past what is known
abbrev pub IsAllowed : Circuit → State → Action → Type 0
IsAllowed circuit state (happens event) = Exists circuit event
IsAllowed circuit state (drains net bound) = CanDrain state net bound

-- each action is allowed when it comes
abbrev pub CanAct : Circuit → State → List Action → Type 0
CanAct circuit state [] = Unit {0}
CanAct circuit state (action ∷ actions) = IsAllowed circuit state action × CanAct circuit (acted state action) actions

-- this holds of any actions that are allowed when they come
abbrev pub ForActions : Circuit → State → (List Action → Type 0) → Type 0
ForActions circuit state P = (actions : List Action) → CanAct circuit state actions → P actions

-- the changes of a net that an action hands out
abbrev pub given_out : ℕ → State → Action → List Change
given_out net state (happens event) = []
given_out net state (drains other bound) =
    if other == net then option_map_or (drained_changes bound) (slice_get state.processes net) [] else []

-- the changes of a net that some actions hand out, one after another
abbrev pub handed_out : ℕ → State → List Action → List Change
handed_out net state [] = []
handed_out net state (action ∷ actions) = given_out net state action ++ handed_out net (acted state action) actions

-- what some actions hand out of each net, and after it what is left of the net, are these changes
abbrev pub AllComesOut : State → List Action → (ℕ → ProcessState → List Change) → Type 0
AllComesOut state actions changes =
    EachNet (all_acted state actions) (λ net process. handed_out net state actions ++ process.known.wave.changes ≡ changes net process)

-- the changes that the equations give a net, from a tick up to another
abbrev pub changes_given : Circuit → ℕ → ℕ → ℕ → List Change
changes_given circuit net from to = changes_between (value_of circuit net) from to

-- some actions complete a run from its beginning
pub record CompleteRun (circuit : Circuit) (last : ℕ) (actions : List Action) : Type 0 where
  pub well_formed : IsCircuit circuit
  pub allowed : CanAct circuit (started circuit last) actions
  pub complete : IsComplete (all_acted (started circuit last) actions)

-- a process without its waveform and the tick from which on that is kept
abbrev pub apart_from_wave : ProcessState → ProcessState
apart_from_wave process =
    record process { floor = 0; known = record { wave = record { before = Unknown; changes = [] }; frontier = process.known.frontier } }

-- a state without the waveforms of its nets and the ticks from which on these are kept
abbrev pub apart_from_waves : State → State
apart_from_waves state = record state { processes = map apart_from_wave state.processes }

-- two states of one run that differ only in what was drained
pub record AreAlike (circuit : Circuit) (last : ℕ) (one other : State) : Type 0 where
  pub one_sound : IsSound circuit last one
  pub other_sound : IsSound circuit last other
  pub alike : apart_from_waves one ≡ apart_from_waves other

-- this holds of any two such states: of their circuit and of them
abbrev pub ForAlike : (Circuit → State → State → Type 0) → Type 0
ForAlike P =
    (circuit : Circuit) → IsCircuit circuit → (last : ℕ) (one other : State) → AreAlike circuit last one other → P circuit one other
