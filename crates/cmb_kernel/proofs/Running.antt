-- What the parts of a running kernel tell.
use Rattle.std.proofs.Common.{◌≡◌, ℕ, suc, ◌+◌, ◌-◌, ◌<◌, ◌≤◌, Bool, false, List, [], ◌∷◌, map, length, Option, None, Some, slice_get, refl, ap, sym, subst, ◌∙◌, arith, zero-add, add-zero}
use Rattle.std.specs.List.{range_with_len}
use Rattle.std.specs.Option.{option_map, option_map_or, ForSome}
use Rattle.std.proofs.lemmas.List.{length-map}
use Rattle.std.proofs.lemmas.Option.{slice_get-map, get_or_from_slice_get, same_Some}
use Rattle.logic3.specs.Wave.{Wave, wave_of}
use Rattle.design.specs.Circuit.{Net, Circuit, IsCircuit, pin_count}
use Rattle.design.specs.Design.{DesignView}
use Rattle.design.specs.Equations.{value_of, waves_of}
use Rattle.design.specs.Pins.{first_pin, net_of_pin, place_of_pin}
use Rattle.design.proofs.CallerLemmas.{pin_is, All-slice_get, IsCircuit-from_IsDesign}
use Rattle.cmb_channels.specs.declared.message.Message.{Message}
use Rattle.cmb_channels.proofs.CallerLemmas.{view_at}
use Rattle.gate_process.specs.Knowledge.{Knowledge}
use Rattle.gate_process.specs.Step.{ProcessState, ProcessView, running}
use Rattle.gate_process.proofs.CallerLemmas.{get_below}
use Rattle.cmb_kernel.specs.declared.counts.Counts.{Counts}
use Rattle.cmb_kernel.specs.State.{State, KernelView, nets_of, frontier_at, floor_at, IsUndrained, received_of, received_at, IsComplete, waves_in}
use Rattle.cmb_kernel.specs.Running.{state_of, IsRunning}
use Rattle.cmb_kernel.specs.Sound.{IsSound, waves_kept}
use Rattle.cmb_kernel.proofs.Soundness.{net_at}
use Rattle.cmb_kernel.proofs.LeastFrontier.{net_count}
use Rattle.cmb_kernel.proofs.PinPlaces.{received_there}
use Rattle.cmb_kernel.proofs.Completion.{frontier_within}
use Rattle.cmb_kernel.proofs.Measure.{received_within}
use Rattle.cmb_kernel.proofs.Consequences.{knows_net}

-- a process that the kernel keeps for a net runs, and is the one of the state
pub record RunsAt (state : State) (net : ℕ) (process : ProcessView) : Type 0 where
  pub runs : process.failed ≡ false
  pub at : slice_get state.processes net ≡ Some process.state

-- the net of a pin has a first pin
pub some_pin : (circuit : Circuit) (pin net : ℕ) → pin < pin_count circuit → net ≡ net_of_pin circuit pin →
    ForSome (slice_get circuit net) (λ (n : Net). 0 < length n.pins)
some_pin circuit pin net exists net_is n at =
    let there = pin_is circuit pin exists in
    let here : slice_get circuit (net_of_pin circuit pin) ≡ Some n = subst (λ m. slice_get circuit m ≡ Some n) net_is at in
    let same : there.net ≡ n = (let a = there.at in cc) in
    let long = ap (λ (m : Net). length m.pins) same in
    let within = there.within in
    omega arith

-- the place of a pin, counted from the first pin of its net
pub place_is : (circuit : Circuit) (pin net first : ℕ) → pin < pin_count circuit → net ≡ net_of_pin circuit pin →
    first ≡ first_pin circuit net + 0 → (first ≤ pin) × (pin - first ≡ place_of_pin circuit pin)
place_is circuit pin net first exists net_is first_is =
    let there = pin_is circuit pin exists in
    let starts = ap (first_pin circuit) net_is in
    let number = there.number_is in
    (omega arith, omega arith)

module _ {design : DesignView} {end : ℕ} {processes : List ProcessView} {sources : List ℕ} {nets : ℕ} {lists : List (List Message)}
    {counts : Counts} (all : IsRunning design end processes sources nets (state_of processes lists counts)) where
  pub circuit_ok : IsCircuit design.circuit
  circuit_ok = IsCircuit-from_IsDesign design all.well_formed

  pub length-processes : length processes ≡ length design.circuit
  length-processes =
      sym (length-map processes (λ (p : ProcessView). p.state)) ∙ net_count design.circuit end (state_of processes lists counts) all.sound

  pub process_below : (net : ℕ) → net < length design.circuit → net < length processes
  process_below net below = let count = length-processes in omega arith

  -- each net has a process
  pub process_at : (net : ℕ) → net < length design.circuit → (process : ProcessView) × (slice_get processes net ≡ Some process)
  process_at net below = get_below processes net (process_below net below)

  pub runs_at : (net : ℕ) (process : ProcessView) → slice_get processes net ≡ Some process →
      RunsAt (state_of processes lists counts) net process
  runs_at net process is =
      let state : slice_get (map (λ (p : ProcessView). p.state) processes) net ≡ Some process.state =
      slice_get-map (λ (p : ProcessView). p.state) processes net ∙ ap (option_map (λ (p : ProcessView). p.state)) is in
      let again : Some process ≡ Some (running process.state) =
      sym is ∙ ap (λ ps. slice_get ps net) all.all_run
      ∙ slice_get-map running (map (λ (p : ProcessView). p.state) processes) net ∙ ap (option_map running) state in
      record { runs = ap (λ (p : ProcessView). p.failed) (same_Some process (running process.state) again); at = state }

  pub frontier_is : (net : ℕ) (process : ProcessView) → slice_get processes net ≡ Some process →
      process.state.known.frontier ≡ frontier_at (state_of processes lists counts) net
  frontier_is net process is =
      sym (view_at (λ (p : ProcessState). p.known.frontier) (map (λ (p : ProcessView). p.state) processes) net process.state
      (runs_at net process is).at)

  pub frontier_in_time : (net : ℕ) (process : ProcessView) (frontier : ℕ) → slice_get processes net ≡ Some process →
      frontier ≡ process.state.known.frontier → frontier ≤ end
  frontier_in_time net process frontier is known =
      let within = frontier_within design.circuit end net (state_of processes lists counts) process.state all.sound (runs_at net process is).at in
      omega (arith, within, known)

  pub floor_is : (net : ℕ) (process : ProcessView) → slice_get processes net ≡ Some process →
      process.state.floor ≡ floor_at (state_of processes lists counts) net
  floor_is net process is =
      sym (view_at (λ (p : ProcessState). p.floor) (map (λ (p : ProcessView). p.state) processes) net process.state
      (runs_at net process is).at)

  pub floor_in_time : (net : ℕ) (process : ProcessView) (floor : ℕ) → slice_get processes net ≡ Some process →
      floor ≡ process.state.floor → floor ≤ frontier_at (state_of processes lists counts) net
  floor_in_time net process floor is same =
      let knows = all.sound.processes net process.state (runs_at net process is).at in
      omega (arith, knows.floor, same, frontier_is net process is)

  pub wave_is : (net : ℕ) (process : ProcessView) → slice_get processes net ≡ Some process →
      process.state.known.wave
      ≡ wave_of (value_of design.circuit net) (floor_at (state_of processes lists counts) net) (frontier_at (state_of processes lists counts) net)
  wave_is net process is =
      let there = (runs_at net process is).at in
      let knows = knows_net design.circuit end (state_of processes lists counts) all.sound net process.state there in
      knows.wave ∙ ap (λ from. wave_of (value_of design.circuit net) from process.state.known.frontier) (floor_is net process is)
      ∙ ap (wave_of (value_of design.circuit net) (floor_at (state_of processes lists counts) net)) (frontier_is net process is)

  -- the place of a pin is among those of its net's process
  pub place_within : (pin net : ℕ) (process : ProcessView) → pin < pin_count design.circuit → net ≡ net_of_pin design.circuit pin →
      slice_get processes net ≡ Some process →
      place_of_pin design.circuit pin < length process.state.received
  place_within pin net process exists net_is is =
      let state = state_of processes lists counts in
      let here = (runs_at net process is).at in
      let there = pin_is design.circuit pin exists in
      let own : slice_get design.circuit net ≡ Some process.state.net =
      net_at design.circuit circuit_ok end (state_of processes lists counts) all.sound net process.state here in
      let at : slice_get design.circuit net ≡ Some there.net =
      subst (λ m. slice_get design.circuit m ≡ Some there.net) (sym net_is) there.at in
      let same : there.net ≡ process.state.net = cc in
      let pins : length process.state.received ≡ length process.state.net.pins = (all.sound.processes net process.state here).pins in
      let long = ap (λ (n : Net). length n.pins) same in
      let within = there.within in
      omega arith

  pub received_is : (pin net place frontier : ℕ) (process : ProcessView) → net ≡ net_of_pin design.circuit pin → place ≡ place_of_pin design.circuit pin →
      slice_get processes net ≡ Some process →
      option_map (λ (known : Knowledge). known.frontier) (slice_get process.state.received place) ≡ Some frontier →
      frontier ≡ received_at (state_of processes lists counts) pin
  received_is pin net place frontier process net_is place_at is told =
      let here = (runs_at net process is).at in
      let known : slice_get (map (λ (k : Knowledge). k.frontier) process.state.received) place ≡ Some frontier =
      slice_get-map (λ (k : Knowledge). k.frontier) process.state.received place ∙ told in
      let own : received_of process.state place ≡ frontier =
      get_or_from_slice_get (map (λ (k : Knowledge). k.frontier) process.state.received) place frontier 0 known in
      let net_there : net ≡ net_of_pin (nets_of (state_of processes lists counts)) pin =
      net_is ∙ ap (λ c. net_of_pin c pin) (sym all.sound.nets) in
      let place_there : place ≡ place_of_pin (nets_of (state_of processes lists counts)) pin =
      place_at ∙ ap (λ c. place_of_pin c pin) (sym all.sound.nets) in
      sym own ∙ ap (received_of process.state) place_there
      ∙ ap (λ at. option_map_or (λ (p : ProcessState). received_of p (place_of_pin (nets_of (state_of processes lists counts)) pin)) at 0)
      (sym here ∙ ap (slice_get (map (λ (p : ProcessView). p.state) processes)) net_there)

  -- the same by the net of a pin and its place there
  pub place_there : (net place : ℕ) (process : ProcessView) → slice_get processes net ≡ Some process →
      ForSome (slice_get design.circuit net) (λ (n : Net). place < length n.pins) → place < length process.state.received
  place_there net place process is inside =
      let here = (runs_at net process is).at in
      let own = net_at design.circuit circuit_ok end (state_of processes lists counts) all.sound net process.state here in
      let pins = (all.sound.processes net process.state here).pins in
      let within = inside process.state.net own in
      omega (arith, pins, within)

  pub received_by_place : (net place frontier : ℕ) (process : ProcessView) → slice_get processes net ≡ Some process →
      option_map (λ (known : Knowledge). known.frontier) (slice_get process.state.received place) ≡ Some frontier →
      frontier ≡ received_at (state_of processes lists counts) (first_pin design.circuit net + place)
  received_by_place net place frontier process is told = go (slice_get process.state.received place) refl told
    where
      go : (found : Option Knowledge) → slice_get process.state.received place ≡ found →
          option_map (λ (known : Knowledge). known.frontier) found ≡ Some frontier →
          frontier ≡ received_at (state_of processes lists counts) (first_pin design.circuit net + place)
      go None e told = cc
      go (Some known) e told =
          sym (same_Some known.frontier frontier told)
          ∙ sym (received_there design.circuit circuit_ok end (state_of processes lists counts) all.sound net place process.state known
          (runs_at net process is).at e)

  pub received_in_time : (net place frontier : ℕ) (process : ProcessView) → slice_get processes net ≡ Some process →
      option_map (λ (known : Knowledge). known.frontier) (slice_get process.state.received place) ≡ Some frontier → frontier ≤ end
  received_in_time net place frontier process is told = go (slice_get process.state.received place) refl told
    where
      go : (found : Option Knowledge) → slice_get process.state.received place ≡ found →
          option_map (λ (known : Knowledge). known.frontier) found ≡ Some frontier → frontier ≤ end
      go None e told = cc
      go (Some known) e told =
          let same : known.frontier ≡ frontier = same_Some known.frontier frontier told in
          let within = received_within design.circuit circuit_ok end (state_of processes lists counts) all.sound net place process.state known
          (runs_at net process is).at e in
          omega (arith, same, within)

-- a run that goes on from one that hasn't failed
pub goes_on : {circuit same_circuit : Circuit} {end same_end : ℕ} {failed : Bool} {new next : State} → same_circuit ≡ circuit → same_end ≡ end →
    failed ≡ false → new ≡ next →
    ◌≡◌ {A = KernelView} (record { circuit = same_circuit; end = same_end; failed = false; state = new })
    (record { circuit = circuit; end = end; failed = failed; state = next })
goes_on same ends runs goes = λ i. record { circuit = same i; end = ends i; failed = sym runs i; state = goes i }

-- the count of rounds plays no part
pub with_rounds : {design : DesignView} {end : ℕ} {processes : List ProcessView} {sources : List ℕ} {nets : ℕ} {lists : List (List Message)}
    {counts : Counts} (rounds : ℕ) → IsRunning design end processes sources nets (state_of processes lists counts) →
    IsRunning design end processes sources nets (state_of processes lists (record counts { rounds = rounds }))
with_rounds rounds all = record {
  well_formed = all.well_formed;
  within = all.within;
  all_run = all.all_run;
  feeds = all.feeds;
  all_nets = all.all_nets;
  messages = all.messages;
  sound = record {
    nets = all.sound.nets;
    lists = all.sound.lists;
    ends = all.sound.ends;
    processes = all.sound.processes;
    waiting = all.sound.waiting;
  };
}

-- ---- the waveforms of a complete run

map-numbered : {A B : Type 0} (view : A → B) (at : ℕ → B) (xs : List A) (from : ℕ) →
    ((place : ℕ) (x : A) → slice_get xs place ≡ Some x → view x ≡ at (from + place)) → map view xs ≡ map at (range_with_len from (length xs))
map-numbered view at [] from same = refl
map-numbered view at (x ∷ xs) from same =
    let first : view x ≡ at from = same 0 x refl ∙ ap at (add-zero from) in
    let rest = map-numbered view at xs (from + 1) (λ place y e.
    same (suc place) y e ∙ ap at (let e : from + suc place ≡ from + 1 + place = omega arith in e)) in
    λ i. first i ∷ rest i

pub waves_complete : (circuit : Circuit) (end : ℕ) (state : State) → IsSound circuit end state → IsComplete state →
    waves_in state ≡ waves_kept circuit end state
waves_complete circuit end state sound complete =
    map-numbered (λ (p : ProcessState). p.known.wave) (λ net. wave_of (value_of circuit net) (floor_at state net) end) state.processes 0 known
    ∙ ap (λ n. map (λ net. wave_of (value_of circuit net) (floor_at state net) end) (range_with_len 0 n)) (net_count circuit end state sound)
  where
    known : (number : ℕ) (process : ProcessState) → slice_get state.processes number ≡ Some process →
        process.known.wave ≡ wave_of (value_of circuit (0 + number)) (floor_at state (0 + number)) end
    known number process at =
        let knows = knows_net circuit end state sound number process at in
        let floor = sym (view_at (λ (p : ProcessState). p.floor) state.processes number process at) in
        let done = All-slice_get (λ (p : ProcessState). p.known.frontier ≡ p.end) state.processes number process complete at in
        let last = sound.ends number process at in
        knows.wave ∙ ap (λ from. wave_of (value_of circuit number) from process.known.frontier) floor
        ∙ ap (wave_of (value_of circuit number) (floor_at state number)) (done ∙ last)
        ∙ ap (λ n. wave_of (value_of circuit n) (floor_at state n) end) (sym (zero-add number))

pub waves_are : {design : DesignView} {end : ℕ} {processes : List ProcessView} {sources : List ℕ} {nets : ℕ} {state : State} →
    IsRunning design end processes sources nets state → IsComplete state → waves_in state ≡ waves_kept design.circuit end state
waves_are {design} {end} {state = state} all complete = waves_complete design.circuit end state all.sound complete

-- where no changes were taken out they are whole
pub waves_whole : (circuit : Circuit) (end : ℕ) (state : State) → IsUndrained state → waves_kept circuit end state ≡ waves_of circuit end
unfolding waves_of
waves_whole circuit end state undrained =
    ap (λ (wave : ℕ → Wave). map wave (range_with_len 0 (length circuit)))
    (λ i net. wave_of (value_of circuit net) (undrained net i) end)
