-- Runs that go on event by event.
use Rattle.std.proofs.Common.{◌≡◌, ℕ, zero, suc, ◌+◌, ◌<◌, List, [], ◌∷◌, map, take, drop, replicate, length, get_or, slice_index_or, refl, ap, sym, ◌∙◌, arith, zero-add, drop-cons}
use Rattle.std.specs.List.{range_with_len}
use Rattle.std.proofs.lemmas.List.{take_more, drop-set-lt}
use Rattle.std.proofs.lemmas.List.FromFn.{map-range_with_len_more}
use Rattle.cmb_channels.specs.declared.message.Message.{Message}
use Rattle.cmb_channels.proofs.CallerLemmas.{length-update, length-taken}
use Rattle.design.specs.Pins.{net_of_pin, place_of_pin}
use Rattle.gate_process.specs.Step.{advanced, heard}
use Rattle.cmb_events.specs.declared.event.Event.{Event}
use Rattle.cmb_events.specs.declared.event.Event.TheVariants.{Deliver, Advance}
use Rattle.cmb_kernel.specs.State.{State, KernelView, nets_of}
use Rattle.cmb_kernel.specs.Step.{after_deliver, step, steps, deliveries_from, round_events}
use Rattle.cmb_kernel.proofs.LeastFrontier.{steps-append}

-- a run that came this far goes on
pub moved_on : {now next : KernelView} {reached after : State} (run : KernelView) (change : State → State) → now ≡ record run { state = reached } →
    next ≡ record now { state = change now.state } → change reached ≡ after → next ≡ record run { state = after }
moved_on run change came goes is = goes ∙ ap (λ (r : KernelView). record r { state = change r.state }) came ∙ ap (λ s. record run { state = s }) is

-- one more event of a list
pub steps_more : (state : State) (events : List Event) (at : ℕ) (d : Event) → at < length events →
    step (steps state (take at events)) (get_or events at d) ≡ steps state (take (at + 1) events)
steps_more state events at d within =
    sym (ap (steps state) (take_more events at d within) ∙ steps-append state (take at events) (get_or events at d ∷ []))

-- one more time the same event
pub steps_again : (event : Event) (count : ℕ) (state : State) →
    step (steps state (replicate count event)) event ≡ steps state (replicate (count + 1) event)
steps_again event zero state = refl
steps_again event (suc count) state =
    let more : suc (count + 1) ≡ suc count + 1 = omega arith in
    steps_again event count (step state event) ∙ ap (λ n. steps state (replicate n event)) more

-- one more net advances
pub advances_more : (state : State) (net : ℕ) →
    step (steps state (map Advance (range_with_len 0 net))) (Advance net) ≡ steps state (map Advance (range_with_len 0 (net + 1)))
advances_more state net =
    sym (ap (steps state) (map-range_with_len_more Advance 0 net net (zero-add net))
    ∙ steps-append state (map Advance (range_with_len 0 net)) (Advance net ∷ []))

-- ---- the pins of a round

-- a pin that takes messages leaves those of later pins
delivered_lists : (pin count : ℕ) (state : State) →
    (length (steps state (replicate count (Deliver pin))).lists ≡ length state.lists)
    × (drop (pin + 1) (steps state (replicate count (Deliver pin))).lists ≡ drop (pin + 1) state.lists)
delivered_lists pin zero state = (refl, refl)
delivered_lists pin (suc count) state =
    let rest = delivered_lists pin count (step state (Deliver pin)) in
    let first = one (slice_index_or state.lists pin []) in
    (rest.0 ∙ first.0, rest.1 ∙ first.1)
  where
    one : (waiting : List Message) → (length (after_deliver state pin waiting).lists ≡ length state.lists)
        × (drop (pin + 1) (after_deliver state pin waiting).lists ≡ drop (pin + 1) state.lists)
    one [] = (refl, refl)
    one (message ∷ messages) = (length-taken pin state.lists, drop-set-lt (pin + 1) state.lists pin _ (omega arith))

length-delivered : (pin count : ℕ) (state : State) → length (steps state (replicate count (Deliver pin))).lists ≡ length state.lists
length-delivered pin count state = (delivered_lists pin count state).0

-- the deliveries of a round from a pin on are those of the pin, and those from the next pin on
deliveries_more : (pin : ℕ) (state : State) → pin < length state.lists →
    let after = steps state (replicate (length (slice_index_or state.lists pin [])) (Deliver pin)) in
    steps after (deliveries_from (pin + 1) (drop (pin + 1) after.lists)) ≡ steps state (deliveries_from pin (drop pin state.lists))
deliveries_more pin state below =
    let here = slice_index_or state.lists pin [] in
    ap (λ lists. steps (steps state (replicate (length (slice_index_or state.lists pin [])) (Deliver pin))) (deliveries_from (pin + 1) lists))
    (delivered_lists pin (length (slice_index_or state.lists pin [])) state).1
    ∙ sym (steps-append state (replicate (length (slice_index_or state.lists pin [])) (Deliver pin)) (deliveries_from (pin + 1) (drop (pin + 1) state.lists)))
    ∙ ap (λ lists. steps state (deliveries_from pin lists)) (sym (drop_more pin state.lists below))
  where
    drop_more : (at : ℕ) (lists : List (List Message)) → at < length lists → drop at lists ≡ slice_index_or lists at [] ∷ drop (at + 1) lists
    drop_more at lists h = drop-cons lists at [] h ∙ ap (λ n. slice_index_or lists at [] ∷ drop n lists) (let e : suc at ≡ at + 1 = omega arith in e)

-- pins took what waited, up to this one; what is left of the deliveries leads where all of them do
pub record DeliveredTo (start now : KernelView) (pin : ℕ) : Type 0 where
  pub run : now ≡ record start { state = now.state }
  pub lists : length now.state.lists ≡ length start.state.lists
  pub left : steps now.state (deliveries_from pin (drop pin now.state.lists)) ≡ steps start.state (deliveries_from 0 start.state.lists)

pub delivered_more : (start now next : KernelView) (pin : ℕ) → pin < length now.state.lists → DeliveredTo start now pin →
    next ≡ record now { state = steps now.state (replicate (length (slice_index_or now.state.lists pin [])) (Deliver pin)) } →
    DeliveredTo start next (pin + 1)
delivered_more start now next pin below so_far goes =
    let came : next.state ≡ steps now.state (replicate (length (slice_index_or now.state.lists pin [])) (Deliver pin)) = ap (λ (r : KernelView). r.state) goes in
    record {
      run = goes ∙ ap (λ (r : KernelView). record r { state = steps now.state (replicate (length (slice_index_or now.state.lists pin [])) (Deliver pin)) }) so_far.run
          ∙ ap (λ s. record start { state = s }) (sym came);
      lists = ap (λ (s : State). length s.lists) came ∙ length-delivered pin (length (slice_index_or now.state.lists pin [])) now.state ∙ so_far.lists;
      left = ap (λ (s : State). steps s (deliveries_from (pin + 1) (drop (pin + 1) s.lists))) came
          ∙ deliveries_more pin now.state below ∙ so_far.left;
    }

-- ---- a round

length-steps : (state : State) (events : List Event) → length (steps state events).processes ≡ length state.processes
length-steps state [] = refl
length-steps state (event ∷ events) = length-steps (step state event) events ∙ one event
  where
    delivered : (pin : ℕ) (waiting : List Message) → length (after_deliver state pin waiting).processes ≡ length state.processes
    delivered pin [] = refl
    delivered pin (message ∷ messages) =
        length-update (heard (place_of_pin (nets_of state) pin) message) (net_of_pin (nets_of state) pin) state.processes

    one : (event : Event) → length (step state event).processes ≡ length state.processes
    one (Deliver pin) = delivered pin (slice_index_or state.lists pin [])
    one (Advance net) = length-update advanced net state.processes

-- the pins take what waits, and then the nets advance
pub round_steps : (state : State) →
    let delivered = steps state (deliveries_from 0 state.lists) in
    steps delivered (map Advance (range_with_len 0 (length delivered.processes))) ≡ steps state (round_events state)
round_steps state =
    ap (λ n. steps (steps state (deliveries_from 0 state.lists)) (map Advance (range_with_len 0 n)))
    (length-steps state (deliveries_from 0 state.lists))
    ∙ sym (steps-append state (deliveries_from 0 state.lists) (map Advance (range_with_len 0 (length state.processes))))
