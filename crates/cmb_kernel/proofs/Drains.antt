-- Taking out changes keeps a state sound.
use Rattle.std.proofs.Common.{◌≡◌, ℕ, ◌+◌, ◌<◌, ◌≤◌, max, List, [], map, length, slice_set, refl, Some, slice_get, slice_index_or, ap, sym, subst, ◌∙◌, arith, inl, inr}
use Rattle.logic3.specs.Wave.{changes_between}
use Rattle.design.specs.Circuit.{Circuit}
use Rattle.design.specs.Equations.{value_of}
use Rattle.design.specs.Pins.{first_pin}
use Rattle.design.specs.Design.{DesignView}
use Rattle.cmb_channels.specs.declared.message.Message.{Message}
use Rattle.cmb_channels.proofs.CallerLemmas.{map-update, view_of_update_same, IsUpdated, get_of_update}
use Rattle.gate_process.specs.Knowledge.{Knowledge, Tells}
use Rattle.gate_process.specs.Step.{ProcessState, ProcessView, running, drained, drained_changes}
use Rattle.gate_process.specs.Truth.{KnowsTruth}
use Rattle.gate_process.proofs.CallerLemmas.{drained_knows, drained_true}
use Rattle.cmb_kernel.specs.declared.counts.Counts.{Counts}
use Rattle.cmb_kernel.specs.State.{State, frontier_at, floor_at, least_frontier}
use Rattle.cmb_kernel.specs.Step.{after_drain}
use Rattle.cmb_kernel.specs.Sound.{CanDrain, IsSound}
use Rattle.cmb_kernel.specs.Running.{state_of, IsRunning}
use Rattle.cmb_kernel.proofs.LeastFrontier.{least_frontier-le}
use Rattle.cmb_kernel.proofs.Running.{runs_at, floor_is, frontier_is}
use Rattle.cmb_kernel.proofs.Applied.{changed, changed_runs, changed_frontiers}

module _ (circuit : Circuit) (last : ℕ) (state : State) (sound : IsSound circuit last state) (net bound : ℕ)
    (allowed : (process : ProcessState) → slice_get state.processes net ≡ Some process → (process.floor ≤ bound) × (bound ≤ process.known.frontier)) where
  pub drain_sound : IsSound circuit last (after_drain state net bound)
  drain_sound = record {
    nets = map-update (λ (p : ProcessState). p.net) (drained bound) net state.processes (λ p. refl) ∙ sound.nets;
    lists = sound.lists;
    ends = λ number process e. ends number process (get_of_update (drained bound) net state.processes number process e);
    processes = λ number process e. knows number process (get_of_update (drained bound) net state.processes number process e);
    waiting = λ number place source process received a b c.
        subst (λ f. Tells (value_of circuit source) received.frontier f (slice_index_or state.lists (first_pin circuit number + place) []))
        (sym (ap (λ ns. slice_index_or ns source 0)
        (map-update (λ (p : ProcessState). p.known.frontier) (drained bound) net state.processes (λ p. refl))))
        (waits number place source process received b c (get_of_update (drained bound) net state.processes number process a));
  }
    where
      ends : (number : ℕ) (process : ProcessState) → IsUpdated (drained bound) net state.processes number process → process.end ≡ last
      ends number process (inl same) = ap (λ (p : ProcessState). p.end) same.1.2 ∙ sound.ends net same.1.0 same.1.1
      ends number process (inr other) = sound.ends number process other.1

      knows : (number : ℕ) (process : ProcessState) → IsUpdated (drained bound) net state.processes number process →
          KnowsTruth (value_of circuit) number process
      knows number process (inl same) =
          subst (λ n. KnowsTruth (value_of circuit) n process) (sym same.0)
          (subst (λ p. KnowsTruth (value_of circuit) net p) (sym same.1.2)
          (drained_knows (value_of circuit) net bound same.1.0 (sound.processes net same.1.0 same.1.1)
          (allowed same.1.0 same.1.1).0 (allowed same.1.0 same.1.1).1))
      knows number process (inr other) = sound.processes number process other.1

      waits : (number place source : ℕ) (process : ProcessState) (received : Knowledge) →
          slice_get process.net.pins place ≡ Some source → slice_get process.received place ≡ Some received →
          IsUpdated (drained bound) net state.processes number process →
          Tells (value_of circuit source) received.frontier (frontier_at state source)
          (slice_index_or state.lists (first_pin circuit number + place) [])
      waits number place source process received b c (inl same) =
          sound.waiting number place source same.1.0 received
          (subst (λ n. slice_get state.processes n ≡ Some same.1.0) (sym same.0) same.1.1)
          (subst (λ (p : ProcessState). slice_get p.net.pins place ≡ Some source) same.1.2 b)
          (subst (λ (p : ProcessState). slice_get p.received place ≡ Some received) same.1.2 c)
      waits number place source process received b c (inr other) = sound.waiting number place source process received other.1 b c

-- the parts of a running kernel after a net is drained
module _ {design : DesignView} {end : ℕ} {processes : List ProcessView} {sources : List ℕ} {nets : ℕ} {lists : List (List Message)}
    {counts : Counts} (all : IsRunning design end processes sources nets (state_of processes lists counts))
    (net bound : ℕ) (process : ProcessView) (below : net < length design.circuit) (is : slice_get processes net ≡ Some process)
    (above : floor_at (state_of processes lists counts) net ≤ bound)
    (known : bound ≤ least_frontier end (state_of processes lists counts)) where
  -- the bound is between the net's floor and its frontier
  pub bounded : (process.state.floor ≤ bound) × (bound ≤ process.state.known.frontier)
  bounded =
      let floor = floor_is all net process is in
      let frontier = frontier_is all net process is in
      let least = least_frontier-le design.circuit end (state_of processes lists counts) all.sound net below in
      (omega arith, omega arith)

  can_drain : CanDrain (state_of processes lists counts) net bound
  can_drain other at =
      let here = (runs_at all net process is).at in
      let same : process.state ≡ other = cc in
      subst (λ (p : ProcessState). (p.floor ≤ bound) × (bound ≤ p.known.frontier)) same bounded

  pub after : state_of (slice_set processes net (running (drained bound process.state))) lists counts
      ≡ after_drain (state_of processes lists counts) net bound
  after =
      ap (λ ps. record { processes = ps; lists = lists; counts = counts })
      (changed all net process is (drained bound))

  pub net_drained : IsRunning design end (slice_set processes net (running (drained bound process.state))) sources nets
      (state_of (slice_set processes net (running (drained bound process.state))) lists counts)
  net_drained = record {
    well_formed = all.well_formed;
    within = all.within;
    all_run = changed_runs all net process is (drained bound);
    feeds = all.feeds;
    all_nets = all.all_nets;
    messages =
        let sum = all.messages in
        let frontiers = changed_frontiers all net process is (drained bound) in
        omega (arith, sum, frontiers);
    sound = subst (IsSound design.circuit end) (sym after)
        (drain_sound design.circuit end (state_of processes lists counts) all.sound net bound can_drain);
  }

  -- the changes that are taken out are those of the equations, from the floor up to the bound
  pub taken_out : drained_changes bound process.state
      ≡ changes_between (value_of design.circuit net) (floor_at (state_of processes lists counts) net) bound
  taken_out =
      drained_true (value_of design.circuit) net bound process.state
      (all.sound.processes net process.state (runs_at all net process is).at) bounded.0 bounded.1
      ∙ ap (λ from. changes_between (value_of design.circuit net) from bound) (floor_is all net process is)

  -- and the bound is the floor then
  pub floor_after : floor_at (after_drain (state_of processes lists counts) net bound) net ≡ bound
  floor_after =
      let here = (runs_at all net process is).at in
      let low = bounded.0 in
      view_of_update_same (λ (p : ProcessState). p.floor) (drained bound) net (map (λ (p : ProcessView). p.state) processes) process.state here
      ∙ (let e : max process.state.floor bound ≡ bound = omega arith in e)
