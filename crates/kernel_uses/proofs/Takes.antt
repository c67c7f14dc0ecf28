-- What a pin takes, and what a net hears by that.
use Rattle.std.proofs.Common.{◌≡◌, ◌≢◌, ℕ, zero, suc, ◌+◌, ◌<◌, ◌≤◌, List, [], ◌∷◌, length, false, true, Some, slice_get, slice_index_or, refl, ap, sym, subst, ◌∙◌, arith, ◌⊎◌, inl, inr}
use Rattle.std.proofs.lemmas.Bool.{cases_eq}
use Rattle.design.specs.Circuit.{Net, Circuit, IsCircuit, pin_count}
use Rattle.design.specs.Pins.{first_pin, net_of_pin, place_of_pin}
use Rattle.design.proofs.CallerLemmas.{PinIs, pin_is, same_pin}
use Rattle.cmb_channels.specs.declared.message.Message.{Message}
use Rattle.cmb_events.specs.declared.event.Event.{Event}
use Rattle.cmb_events.specs.declared.event.Event.TheVariants.{Deliver, Advance}
use Rattle.cmb_events.specs.Schedule.{Exists}
use Rattle.cmb_kernel.specs.State.{KernelView, State}
use Rattle.cmb_kernel.specs.Step.{step}
use Rattle.cmb_kernel.specs.Sound.{IsSound, ForSound}
use Rattle.cmb_kernel.specs.Useful.{is_useful, remaining}
use Rattle.kernel_uses.specs.Runs.{IsLed}
use Rattle.kernel_uses.specs.Work.{IsIdle, HasTaken, HasHeard}
use Rattle.kernel_uses.proofs.Leads.{led_circuit, led_event, led_exists, led_on}

pub most_in_all : (last middle first : ℕ) → last ≤ middle → middle ≤ first → last ≤ first
most_in_all last middle first less most = omega arith

-- what the kernel's laws say of a delivery
abbrev pub OneListAlone : Type 0
OneListAlone = (state : State) (pin other : ℕ) → other ≢ pin → slice_index_or (step state (Deliver pin)).lists other [] ≡ slice_index_or state.lists other []

abbrev pub OthersTell : Type 0
OthersTell = ForSound (λ circuit last state. (pin net : ℕ) → net < length circuit → net ≢ net_of_pin circuit pin →
    is_useful (step state (Deliver pin)) (Advance net) ≡ is_useful state (Advance net))

abbrev pub NoneRaises : Type 0
NoneRaises = ForSound (λ circuit last state. (event : Event) → Exists circuit event →
    remaining circuit last (step state event) ≤ remaining circuit last state)

abbrev pub UsefulLowers : Type 0
UsefulLowers = ForSound (λ circuit last state. (event : Event) → Exists circuit event → is_useful state event ≡ true →
    remaining circuit last (step state event) < remaining circuit last state)

-- ---- a pin takes

pub taken_more : (old now next : KernelView) (pin : ℕ) → IsCircuit old.circuit → old.failed ≡ false → OneListAlone → OthersTell → NoneRaises →
    HasTaken pin old now → next ≡ record now { state = step now.state (Deliver pin) } → Exists now.circuit (Deliver pin) →
    (next.failed ≡ false → IsSound next.circuit next.end next.state) → HasTaken pin old next
taken_more old now next pin ok running lists others raises so_far goes exists sound = record {
  led = led_event so_far.led next (Deliver pin) goes exists running sound;
  lists = λ other apart. ap (λ (k : KernelView). slice_index_or k.state.lists other []) goes ∙ lists now.state pin other apart ∙ so_far.lists other apart;
  told = λ net below apart. ap (λ (k : KernelView). is_useful k.state (Advance net)) goes
      ∙ others old.circuit ok old.end now.state so_far.led.sound pin net below apart ∙ so_far.told net below apart;
  left = most_in_all (remaining old.circuit old.end next.state) (remaining old.circuit old.end now.state) (remaining old.circuit old.end old.state)
      (subst (λ (k : KernelView). remaining old.circuit old.end k.state ≤ remaining old.circuit old.end now.state) (sym goes)
      (raises old.circuit ok old.end now.state so_far.led.sound (Deliver pin) (led_exists so_far.led (Deliver pin) exists)))
      so_far.left;
}

pub none_waits : (messages : List Message) → length messages ≤ 0 → messages ≡ []
none_waits [] none = refl
none_waits (message ∷ messages) none = absurd (omega arith)

-- ---- a net hears

-- the pins of a net at the first places took all that waits there
pub record HeardSome (net places : ℕ) (old now : KernelView) : Type 0 where
  pub led : IsLed old now
  pub heard : (place : ℕ) → place < places → slice_index_or now.state.lists (first_pin old.circuit net + place) [] ≡ []
  pub idle : (other : ℕ) → other < length old.circuit → other ≢ net → IsIdle old.circuit old.state other → IsIdle old.circuit now.state other
  pub left : remaining old.circuit old.end now.state ≤ remaining old.circuit old.end old.state

module _ (net place : ℕ) (old now next : KernelView) (pin : ℕ) (so_far : HeardSome net place old now) (taken : HasTaken pin now next)
    (empty : slice_index_or next.state.lists pin [] ≡ []) (at : pin ≡ first_pin old.circuit net + place) (owner : net_of_pin old.circuit pin ≡ net) where
  same_circuit : now.circuit ≡ old.circuit
  same_circuit = led_circuit so_far.led

  more_heard : (other : ℕ) → other < place + 1 → slice_index_or next.state.lists (first_pin old.circuit net + other) [] ≡ []
  more_heard other below = go (cases_eq other place)
    where
      go : (other ≡ place) ⊎ (other ≡ place → ⊥) → slice_index_or next.state.lists (first_pin old.circuit net + other) [] ≡ []
      go (inl same) = ap (λ n. slice_index_or next.state.lists (first_pin old.circuit net + n) []) same
          ∙ ap (λ n. slice_index_or next.state.lists n []) (sym at) ∙ empty
      go (inr apart) =
          taken.lists (first_pin old.circuit net + other) (λ same. apart (let both = same ∙ at in omega (arith, both)))
          ∙ so_far.heard other (omega (arith, apart, below))

  still_idle : (other : ℕ) → other < length old.circuit → other ≢ net → IsIdle old.circuit old.state other → IsIdle old.circuit next.state other
  still_idle other below apart before =
      let idle = so_far.idle other below apart before in
      record {
        told = taken.told other (subst (λ c. other < length c) (sym same_circuit) below)
            (λ same. apart (same ∙ ap (λ c. net_of_pin c pin) same_circuit ∙ owner)) ∙ idle.told;
        heard = λ p exists is. taken.lists p (λ same. apart (sym is ∙ ap (net_of_pin old.circuit) same ∙ owner)) ∙ idle.heard p exists is;
      }

  pub heard_more : HeardSome net (place + 1) old next
  heard_more = record {
    led = led_on so_far.led taken.led;
    heard = more_heard;
    idle = still_idle;
    left = most_in_all (remaining old.circuit old.end next.state) (remaining old.circuit old.end now.state) (remaining old.circuit old.end old.state)
        (subst (λ (k : KernelView). remaining k.circuit k.end next.state ≤ remaining k.circuit k.end now.state) so_far.led.run taken.left) so_far.left;
  }

-- the pin of a net at a place is of that net
pub own_pin : (circuit : Circuit) (net place pin : ℕ) (n : Net) → slice_get circuit net ≡ Some n → place < length n.pins →
    pin ≡ first_pin circuit net + place → pin < pin_count circuit → net_of_pin circuit pin ≡ net
own_pin circuit net place pin n there within is exists =
    let pin_there = pin_is circuit pin exists in
    (same_pin circuit (net_of_pin circuit pin) net (place_of_pin circuit pin) place pin_there.net n pin_there.at there pin_there.within within
    (pin_there.number_is ∙ is)).0

-- all places are heard
pub heard_all : (net : ℕ) (old now : KernelView) (n : Net) → slice_get old.circuit net ≡ Some n → HeardSome net (length n.pins) old now → HasHeard net old now
heard_all net old now n there some = record {
  led = some.led;
  heard = heard;
  idle = some.idle;
  left = some.left;
}
  where
    heard : (pin : ℕ) → pin < pin_count old.circuit → net_of_pin old.circuit pin ≡ net → slice_index_or now.state.lists pin [] ≡ []
    heard pin exists is =
        let pin_there = pin_is old.circuit pin exists in
        let same : Some (PinIs.net pin_there) ≡ Some n = sym pin_there.at ∙ ap (slice_get old.circuit) is ∙ there in
        let long : length (PinIs.net pin_there).pins ≡ length n.pins = cc in
        let within = pin_there.within in
        ap (λ p. slice_index_or now.state.lists p []) (sym (ap (λ number. first_pin old.circuit number + place_of_pin old.circuit pin) (sym is)
        ∙ pin_there.number_is))
        ∙ some.heard (place_of_pin old.circuit pin) (omega (arith, within, long))

-- what stands at a place of a list
pub get_within : {A : Type 0} (xs : List A) (place : ℕ) → place < length xs → (x : A) × (slice_get xs place ≡ Some x)
get_within [] place below = absurd (omega (arith, below))
get_within (x ∷ xs) zero below = (x, refl)
get_within (x ∷ xs) (suc place) below = get_within xs place (omega (arith, below))
