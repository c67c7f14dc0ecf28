-- Each event has a number.
use Rattle.std.proofs.Common.{◌≡◌, ℕ, ◌+◌, ◌-◌, ◌<◌, ◌≤◌, cond, false, length, ap, sym, ◌∙◌, arith}
use Rattle.std.proofs.lemmas.Bool.{lt-ltb, le-ltb}
use Rattle.design.specs.Circuit.{Circuit, pin_count}
use Rattle.cmb_events.specs.declared.event.Event.{Event}
use Rattle.cmb_events.specs.declared.event.Event.TheVariants.{Deliver, Advance}
use Rattle.cmb_events.specs.Schedule.{Exists}
use Rattle.cmb_kernel.specs.State.{State}
use Rattle.cmb_kernel.specs.Useful.{is_useful}
use Rattle.kernel_uses.specs.Work.{event_numbered}

number_of : (circuit : Circuit) (event : Event) → Exists circuit event →
    (number : ℕ) × (number < length circuit + pin_count circuit) × (event_numbered circuit number ≡ event)
number_of circuit (Deliver pin) exists = (
  pin,
  omega (arith, exists),
  ap (λ b. cond b (Deliver pin) (Advance (pin - pin_count circuit))) (lt-ltb pin (pin_count circuit) exists),
)
number_of circuit (Advance net) exists = (
  pin_count circuit + net,
  omega (arith, exists),
  ap (λ b. cond b (Deliver (pin_count circuit + net)) (Advance (pin_count circuit + net - pin_count circuit)))
      (le-ltb (pin_count circuit + net) (pin_count circuit) (omega arith))
      ∙ ap Advance (let same : pin_count circuit + net - pin_count circuit ≡ net = omega arith in same),
)

-- so where those of all numbers are useless each event is
pub all_useless : (circuit : Circuit) (state : State) (numbers : ℕ) → length circuit + pin_count circuit ≤ numbers →
    ((number : ℕ) → number < numbers → is_useful state (event_numbered circuit number) ≡ false) →
    (event : Event) → Exists circuit event → is_useful state event ≡ false
all_useless circuit state numbers all useless event exists =
    let at = number_of circuit event exists in
    sym (ap (is_useful state) at.2) ∙ useless at.0 (let below = at.1 in omega (arith, below, all))
