-- The loops of a sweep: a pin that catches up, the pins of a net, and the nets.
use Rattle.std.proofs.Common.{◌≡◌, ℕ, zero, suc, ◌+◌, ◌<◌, ◌≤◌, cond, List, [], ◌∷◌, ◌++◌, take, length, get_or, refl, ap, sym, subst, ◌∙◌, arith, add-zero}
use Rattle.std.specs.List.{range_with_len}
use Rattle.std.proofs.lemmas.Bool.{le-ltb}
use Rattle.std.proofs.lemmas.List.{take_all, take_more}
use Rattle.design.specs.Pins.{first_pin}
use Rattle.cmb_channels.specs.declared.message.Message.{Message}
use Rattle.cmb_events.specs.declared.event.Event.TheVariants.{Deliver}
use Rattle.cmb_kernel.specs.State.{State, KernelView, received_at, waiting_at}
use Rattle.cmb_kernel.specs.Step.{step}
use Rattle.cmb_kernel.specs.Sweeps.{taken_below, caught_up, all_caught_up, swept_net, swept}
use Rattle.cmb_kernel.specs.Sound.{IsSound}
use Rattle.cmb_kernel.proofs.Moved.{moved_on}

-- ---- a pin

-- it goes no farther where it knows enough
pub knows_enough : (tick : ℕ) (state : State) (pin : ℕ) → tick ≤ received_at state pin → caught_up tick state pin ≡ state
knows_enough tick state pin late = go (waiting_at state pin)
  where
    go : (waiting : List Message) → taken_below tick pin state waiting ≡ state
    go [] = refl
    go (message ∷ messages) =
        ap (λ b. cond b (taken_below tick pin (step state (Deliver pin)) messages) state) (le-ltb (received_at state pin) tick late)

-- or where nothing waits
pub none_waits : (tick : ℕ) (state : State) (pin : ℕ) → length (waiting_at state pin) ≡ 0 → caught_up tick state pin ≡ state
none_waits tick state pin none = go (waiting_at state pin) none
  where
    go : (waiting : List Message) → length waiting ≡ 0 → taken_below tick pin state waiting ≡ state
    go [] e = refl
    go (message ∷ messages) e = absurd (omega (arith, e))

-- a pin on its way to catch up with a tick
pub record CatchesUp (tick pin : ℕ) (start now : KernelView) : Type 0 where
  pub run : now ≡ record start { state = now.state }
  pub sound : IsSound now.circuit now.end now.state
  pub left : caught_up tick now.state pin ≡ caught_up tick start.state pin

-- there it ends where it can take no more
pub caught_up_here : {tick pin : ℕ} {start now : KernelView} → CatchesUp tick pin start now → caught_up tick now.state pin ≡ now.state →
    now ≡ record start { state = caught_up tick start.state pin }
caught_up_here {start = start} so_far done = so_far.run ∙ ap (λ s. record start { state = s }) (sym done ∙ so_far.left)

-- ---- the pins of a net

pub one_more_pin : (tick : ℕ) (state : State) (first count : ℕ) →
    caught_up tick (all_caught_up tick state (range_with_len first count)) (first + count)
    ≡ all_caught_up tick state (range_with_len first (count + 1))
one_more_pin tick state first zero = ap (caught_up tick state) (add-zero first)
one_more_pin tick state first (suc count) =
    let more : suc (count + 1) ≡ suc count + 1 = omega arith in
    let there : first + suc count ≡ first + 1 + count = omega arith in
    ap (caught_up tick (all_caught_up tick (caught_up tick state first) (range_with_len (first + 1) count))) there
    ∙ one_more_pin tick (caught_up tick state first) (first + 1) count
    ∙ ap (λ n. all_caught_up tick state (range_with_len first n)) more

-- pins of a net that catch up, as the kernel has them
pub pin_catches_up : (tick net place : ℕ) (start now next : KernelView) →
    now ≡ record start { state = all_caught_up tick start.state (range_with_len (first_pin start.circuit net) place) } →
    next ≡ record now { state = caught_up tick now.state (first_pin now.circuit net + place) } →
    next ≡ record start { state = all_caught_up tick start.state (range_with_len (first_pin start.circuit net) (place + 1)) }
pin_catches_up tick net place start now next came goes =
    moved_on start (λ s. caught_up tick s (first_pin start.circuit net + place)) came
    (subst (λ nets. next ≡ record now { state = caught_up tick now.state (first_pin nets net + place) }) (ap (λ (r : KernelView). r.circuit) came) goes)
    (one_more_pin tick start.state (first_pin start.circuit net) place)

-- ---- the nets

swept-append : (tick : ℕ) (xs ys : List ℕ) (state : State) → swept tick (xs ++ ys) state ≡ swept tick ys (swept tick xs state)
swept-append tick [] ys state = refl
swept-append tick (x ∷ xs) ys state = swept-append tick xs ys (swept_net tick state x)

pub one_more_net : (tick : ℕ) (order : List ℕ) (at : ℕ) (state : State) → at < length order →
    swept_net tick (swept tick (take at order) state) (get_or order at 0) ≡ swept tick (take (at + 1) order) state
one_more_net tick order at state within =
    sym (ap (λ nets. swept tick nets state) (take_more order at 0 within) ∙ swept-append tick (take at order) (get_or order at 0 ∷ []) state)

-- the whole list
pub all_nets : (tick at : ℕ) (order : List ℕ) (start : KernelView) {now : KernelView} → now ≡ record start { state = swept tick (take at order) start.state } →
    length order ≤ at → now ≡ record start { state = swept tick order start.state }
all_nets tick at order start came done = came ∙ ap (λ nets. record start { state = swept tick nets start.state }) (take_all at order done)
