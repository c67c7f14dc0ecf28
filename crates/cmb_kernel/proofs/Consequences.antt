-- What soundness says of nets and pins.
use Rattle.std.proofs.Common.{◌≡◌, ℕ, ◌+◌, ◌<◌, ◌≤◌, List, [], ◌∷◌, length, Some, slice_get, slice_index_or, ap, sym, subst, ◌∙◌, arith}
use Rattle.logic3.specs.Wave.{value_at, IsWave}
use Rattle.logic3.proofs.CallerLemmas.{value_at-wave_of}
use Rattle.design.specs.Circuit.{Circuit, IsCircuit}
use Rattle.design.specs.Equations.{value_of}
use Rattle.cmb_channels.specs.declared.message.Message.{Message}
use Rattle.design.specs.Pins.{first_pin, net_of_pin, place_of_pin}
use Rattle.gate_process.specs.Knowledge.{Knowledge, told}
use Rattle.gate_process.specs.Step.{ProcessState, kept_from}
use Rattle.gate_process.specs.Truth.{CanHear}
use Rattle.gate_process.proofs.CallerLemmas.{Tells-le, HeardTruth, heard_truth}
use Rattle.cmb_kernel.specs.State.{State, nets_of, frontier_at}
use Rattle.cmb_kernel.specs.Sound.{IsSound, KnowsNet, HearsSource}
use Rattle.cmb_kernel.proofs.Soundness.{hears_truth, pin_tells}
use Rattle.cmb_kernel.proofs.Completion.{frontier_within}
use Rattle.cmb_kernel.proofs.Measure.{feeder_within}

-- a net of a sound state knows what the equations give it, from its floor up to its frontier
pub knows_net : (circuit : Circuit) (last : ℕ) (state : State) → IsSound circuit last state → (number : ℕ) (process : ProcessState) →
    slice_get state.processes number ≡ Some process → KnowsNet circuit last number process
knows_net circuit last state sound number process at =
    let truth = sound.processes number process at in
    record {
      wave = ap (λ (k : Knowledge). k.wave) truth.known;
      floor = truth.floor;
      within = frontier_within circuit last number state process sound at;
    }

-- a pin of a sound state, once it is told all that waits there, knows its source as far as the source knows itself
pub hears_source : (circuit : Circuit) → IsCircuit circuit → (last : ℕ) (state : State) → IsSound circuit last state →
    (number place source : ℕ) (process : ProcessState) (received : Knowledge) →
    slice_get state.processes number ≡ Some process → slice_get process.net.pins place ≡ Some source →
    slice_get process.received place ≡ Some received →
    HearsSource circuit source (frontier_at state source) (kept_from process place received.frontier) received
    (slice_index_or state.lists (first_pin circuit number + place) [])
hears_source circuit ok last state sound number place source process received a b c =
    let all = hears_truth circuit ok last state sound number place source process received a b c in
    record {
      frontier = ap (λ (k : Knowledge). k.frontier) all;
      values = λ tick from below.
          ap (λ (k : Knowledge). value_at k.wave tick) all
          ∙ value_at-wave_of (value_of circuit source) (kept_from process place received.frontier)
          (frontier_at state source) tick from below;
    }

-- the message that waits first at a pin can be told to its process
pub can_hear : (circuit : Circuit) → IsCircuit circuit → (last : ℕ) (state : State) → IsSound circuit last state →
    (pin : ℕ) (message : Message) (messages : List Message) → slice_index_or state.lists pin [] ≡ message ∷ messages → pin < length state.lists →
    (process : ProcessState) → slice_get state.processes (net_of_pin (nets_of state) pin) ≡ Some process →
    CanHear process (place_of_pin (nets_of state) pin) message
can_hear circuit ok last state sound pin message messages waiting exists process at known e =
    let tells = pin_tells circuit ok last state sound pin message messages waiting exists process at in
    let same : known ≡ tells.1 = (let x = tells.3 in cc) in
    let so_far = (sound.processes (net_of_pin (nets_of state) pin) process at).heard (place_of_pin (nets_of state) pin) tells.0 tells.1 tells.2 tells.3 in
    let truth : HeardTruth (value_of circuit tells.0) process (place_of_pin (nets_of state) pin) (frontier_at state tells.0) tells.1 (told tells.1 message) messages =
    heard_truth (value_of circuit tells.0) process (place_of_pin (nets_of state) pin) (frontier_at state tells.0) tells.1 message messages so_far tells.4 in
    let rest : (told tells.1 message).frontier ≤ frontier_at state tells.0 =
    Tells-le (value_of circuit tells.0) (told tells.1 message).frontier (frontier_at state tells.0) messages truth.rest_tells in
    let high = feeder_within circuit ok last state sound (net_of_pin (nets_of state) pin) (place_of_pin (nets_of state) pin) tells.0 process at tells.2 in
    let end = sound.ends (net_of_pin (nets_of state) pin) process at in
    let raised : (tells.1).frontier < (told tells.1 message).frontier = truth.raised in
    subst (λ (k : Knowledge). (k.frontier < (told k message).frontier) × ((told k message).frontier ≤ process.end) × IsWave (told k message).wave) (sym same)
    (raised, omega arith, truth.is_wave)
