-- Pins by their nets and their places there.
use Rattle.std.proofs.Common.{◌≡◌, ℕ, ◌+◌, ◌<◌, ◌≤◌, ◌⊎◌, inl, inr, length, None, Some, slice_get, get_or, ap, sym, ◌∙◌, arith}
use Rattle.std.specs.Option.{ForSome, option_map_or}
use Rattle.std.proofs.lemmas.Option.{slice_get_within, slice_get_cases, slice_get-get_or}
use Rattle.design.specs.Circuit.{Net, Circuit, IsCircuit, pin_count}
use Rattle.design.specs.Pins.{first_pin, net_of_pin, place_of_pin}
use Rattle.design.proofs.CallerLemmas.{pin_below, pin_is, same_pin}
use Rattle.cmb_channels.proofs.CallerLemmas.{view_at}
use Rattle.gate_process.specs.Knowledge.{Knowledge}
use Rattle.gate_process.specs.Step.{ProcessState}
use Rattle.cmb_kernel.specs.State.{State, nets_of, received_of, received_at}
use Rattle.cmb_kernel.specs.Sound.{IsSound}
use Rattle.cmb_kernel.proofs.Soundness.{net_at}

pub pin_exists : (circuit : Circuit) (number place : ℕ) (net : Net) → slice_get circuit number ≡ Some net → place < length net.pins →
    first_pin circuit number + place < pin_count circuit
pin_exists circuit number place net at within =
    pin_below circuit number place _ net at (slice_get-get_or net.pins place 0 within)

-- a pin by its net and place
pub pin_place : (circuit : Circuit) (number place : ℕ) (net : Net) → slice_get circuit number ≡ Some net → place < length net.pins →
    (net_of_pin circuit (first_pin circuit number + place) ≡ number) × (place_of_pin circuit (first_pin circuit number + place) ≡ place)
pin_place circuit number place net at within =
    let there = pin_is circuit (first_pin circuit number + place) (pin_exists circuit number place net at within) in
    same_pin circuit (net_of_pin circuit (first_pin circuit number + place)) number
    (place_of_pin circuit (first_pin circuit number + place)) place there.net net there.at at there.within within there.number_is

-- a pin that is counted from the first one of a net
pub pin_there : (circuit : Circuit) (number place pin : ℕ) → number < length circuit →
    ForSome (slice_get circuit number) (λ (net : Net). place < length net.pins) → pin ≡ first_pin circuit number + place →
    (number ≡ net_of_pin circuit pin) × (place ≡ place_of_pin circuit pin)
pin_there circuit number place pin below inside pin_is = go (slice_get_cases circuit number).1
  where
    go : ((net : Net) × (number < length circuit) × (slice_get circuit number ≡ Some net) × (get_or circuit number net ≡ net))
        ⊎ ((length circuit ≤ number) × (slice_get circuit number ≡ None)) →
        (number ≡ net_of_pin circuit pin) × (place ≡ place_of_pin circuit pin)
    go (inl (net, within, at, is)) =
        let there = pin_place circuit number place net at (inside net at) in
        (sym (ap (net_of_pin circuit) pin_is ∙ there.0), sym (ap (place_of_pin circuit) pin_is ∙ there.1))
    go (inr (past, is)) = absurd (omega (arith, past, below))

-- what the pin at a place received, by the number of the pin
pub received_there : (circuit : Circuit) → IsCircuit circuit → (last : ℕ) (state : State) → IsSound circuit last state → (number place : ℕ) (process : ProcessState) (received : Knowledge) →
    slice_get state.processes number ≡ Some process → slice_get process.received place ≡ Some received →
    received_at state (first_pin circuit number + place) ≡ received.frontier
received_there circuit ok last state sound number place process received a b =
    let own = net_at circuit ok last state sound number process a in
    let pins = (sound.processes number process a).pins in
    let inside = slice_get_within process.received place received b in
    let where_is = pin_place circuit number place process.net own (omega (arith, pins, inside)) in
    let net_is : net_of_pin (nets_of state) (first_pin circuit number + place) ≡ number =
    ap (λ c. net_of_pin c (first_pin circuit number + place)) sound.nets ∙ where_is.0 in
    let place_is : place_of_pin (nets_of state) (first_pin circuit number + place) ≡ place =
    ap (λ c. place_of_pin c (first_pin circuit number + place)) sound.nets ∙ where_is.1 in
    ap (λ n. option_map_or (λ (p : ProcessState). received_of p (place_of_pin (nets_of state) (first_pin circuit number + place)))
    (slice_get state.processes n) 0) net_is
    ∙ ap (λ found. option_map_or (λ (p : ProcessState). received_of p (place_of_pin (nets_of state) (first_pin circuit number + place))) found 0) a
    ∙ ap (received_of process) place_is
    ∙ view_at (λ (k : Knowledge). k.frontier) process.received place received b
