-- A visit of a net: its pins take what waits there, it advances, and where it tells something its readers go on the list.
use Rattle.std.proofs.Common.{◌≡◌, ◌≢◌, ℕ, ◌+◌, ◌*◌, ◌<◌, ◌≤◌, true, false, Option, None, Some, List, [], ◌∷◌, ◌++◌, map, length, slice_index_or, refl, ap, sym, subst, ◌∙◌, arith, ◌⊎◌, inl, inr, append-nil}
use Rattle.std.specs.List.{All, Contains}
use Rattle.std.specs.Option.{IfSome, IfNone, is_some}
use Rattle.std.proofs.lemmas.List.{get_or-map, length-map}
use Rattle.std.proofs.lemmas.List.Elements.{All-cons, All-head, All-nil, All-tail}
use Rattle.std.proofs.Math.Nat.{mul-le-mul_right, add-mul}
use Rattle.design.specs.Circuit.{Circuit, IsCircuit, pin_count}
use Rattle.design.specs.Pins.{net_of_pin, pins_fed, sources_of}
use Rattle.design.proofs.CallerLemmas.{length-pins_fed, length-sources, net_of_pin_below, pins_fed-within}
use Rattle.cmb_events.specs.declared.event.Event.{Event}
use Rattle.cmb_events.specs.declared.event.Event.TheVariants.{Deliver, Advance}
use Rattle.cmb_events.specs.Schedule.{Exists}
use Rattle.cmb_kernel.specs.declared.counts.Counts.{Counts}
use Rattle.cmb_kernel.specs.State.{KernelView, State}
use Rattle.cmb_kernel.specs.Step.{step}
use Rattle.cmb_kernel.specs.Sound.{IsSound}
use Rattle.cmb_kernel.specs.Useful.{IsUnheard, is_useful, remaining}
use Rattle.kernel_uses.specs.Runs.{IsLed}
use Rattle.kernel_uses.specs.Work.{IsIdle, HasHeard}
use Rattle.kernel_uses.proofs.Leads.{counts_play_no_part, led_circuit, led_event, led_exists, led_on, less_in_all}
use Rattle.kernel_uses.proofs.Takes.{NoneRaises, UsefulLowers, most_in_all}
use Rattle.kernel_uses.proofs.Listed.{AllListed, IsQuiet, ListsStay, OthersStay, among, fed_contains, goes_on}

idle_counted : (circuit : Circuit) (state : State) (counts : Counts) (net : ℕ) → IsIdle circuit state net → IsIdle circuit (record state { counts = counts }) net
idle_counted circuit state counts net idle = record { told = counts_play_no_part state counts (Advance net) ∙ idle.told; heard = idle.heard }

module _ (old heard next : KernelView) (work : List ℕ) (net : ℕ) (ok : IsCircuit old.circuit) (below : net < length old.circuit)
    (listed : AllListed old.circuit old.state (work ++ net ∷ [])) (hears : HasHeard net old heard)
    (goes : next ≡ record heard { state = step heard.state (Advance net) }) where
  next_is : step heard.state (Advance net) ≡ next.state
  next_is = sym (ap (λ (k : KernelView). k.state) goes)

  -- a net that has nothing to tell
  pub visited_idle : (counts : Counts) → is_useful heard.state (Advance net) ≡ false →
      step heard.state (Advance net) ≡ record heard.state { counts = counts } → AllListed old.circuit next.state work
  visited_idle counts useless same =
      subst (AllListed old.circuit next.state) (append-nil work)
      (goes_on old.circuit ok old.end work net old heard.state next.state listed []
      (λ other other_below apart idle. inr (on other (hears.idle other other_below apart idle)))
      (inr (on net (record { told = useless; heard = hears.heard }))))
    where
      on : (other : ℕ) → IsIdle old.circuit heard.state other → IsIdle old.circuit next.state other
      on other idle =
          let P : State → Type 0 = λ s. IsIdle old.circuit s other in
          subst P (sym same ∙ next_is) (idle_counted old.circuit heard.state counts other idle)

  -- one that told something, whose readers are put on the list
  pub visited_useful : OthersStay → ListsStay → IsQuiet →
      AllListed old.circuit next.state (work ++ map (net_of_pin old.circuit) (pins_fed net (sources_of old.circuit)))
  visited_useful others lists quiet =
      goes_on old.circuit ok old.end work net old heard.state next.state listed (map (net_of_pin old.circuit) (pins_fed net (sources_of old.circuit)))
      (λ other other_below apart idle. reads other (others_told other other_below apart idle) (hears.idle other other_below apart idle).heard)
      (reads net own_told hears.heard)
    where
      sound : IsSound old.circuit old.end heard.state
      sound = hears.led.sound

      own_told : is_useful next.state (Advance net) ≡ false
      own_told = ap (λ s. is_useful s (Advance net)) (sym next_is)
          ∙ quiet old.circuit ok old.end heard.state sound net below [] (All-nil (Exists old.circuit)) (All-nil (IsUnheard old.circuit net))

      others_told : (other : ℕ) → other < length old.circuit → other ≢ net → IsIdle old.circuit old.state other → is_useful next.state (Advance other) ≡ false
      others_told other other_below apart idle =
          ap (λ s. is_useful s (Advance other)) (sym next_is) ∙ others old.circuit ok old.end heard.state sound net other other_below apart
          ∙ (hears.idle other other_below apart idle).told

      reads : (other : ℕ) → is_useful next.state (Advance other) ≡ false →
          ((pin : ℕ) → pin < pin_count old.circuit → net_of_pin old.circuit pin ≡ other → slice_index_or heard.state.lists pin [] ≡ []) →
          Contains (map (net_of_pin old.circuit) (pins_fed net (sources_of old.circuit))) other ⊎ IsIdle old.circuit next.state other
      reads other told empty = go (among (net_of_pin old.circuit) other (pins_fed net (sources_of old.circuit)))
        where
          go : Contains (map (net_of_pin old.circuit) (pins_fed net (sources_of old.circuit))) other
              ⊎ ((pin : ℕ) → Contains (pins_fed net (sources_of old.circuit)) pin → net_of_pin old.circuit pin ≡ other → ⊥) →
              Contains (map (net_of_pin old.circuit) (pins_fed net (sources_of old.circuit))) other ⊎ IsIdle old.circuit next.state other
          go (inl there) = inl there
          go (inr none) = inr (record {
            told = told;
            heard = λ pin exists is.
                ap (λ s. slice_index_or s.lists pin []) (sym next_is)
                ∙ lists old.circuit ok old.end heard.state sound net pin (λ feeds. none pin (fed_contains net (sources_of old.circuit) pin feeds) is)
                ∙ empty pin exists is;
          })

-- ---- how often

-- a visit that told something leaves less to do, though its readers are on the list then
pub fewer_visits : (left before few work most : ℕ) → left < before → few ≤ most → left * (most + 1) + (work + few) < before * (most + 1) + (work + 1)
fewer_visits left before few work most less within =
    let product = mul-le-mul_right {m = left + 1} {n = before} (most + 1) (omega (arith, less)) in
    let spread = add-mul left 1 (most + 1) in
    omega (arith, product, spread, within)

pub one_visit_less : (left before work most : ℕ) → left ≤ before → left * (most + 1) + work < before * (most + 1) + (work + 1)
one_visit_less left before work most less =
    let product = mul-le-mul_right {m = left} {n = before} (most + 1) less in omega (arith, product)

-- ---- the end

-- where each net has nothing to do no event is useful
pub nothing_useful : (circuit : Circuit) (state : State) → AllListed circuit state [] → (event : Event) → Exists circuit event →
    ((pin : ℕ) → pin < pin_count circuit → is_useful state (Deliver pin) ≡ true → 0 < length (slice_index_or state.lists pin [])) →
    ((pin : ℕ) → pin < pin_count circuit → net_of_pin circuit pin < length circuit) → is_useful state event ≡ true → ⊥
nothing_useful circuit state listed (Advance net) exists waits owner useful = go (listed net exists)
  where
    go : Contains [] net ⊎ IsIdle circuit state net → ⊥
    go (inl found) = let f = found.1 in omega (arith, f)
    go (inr idle) = let both = sym useful ∙ idle.told in cc
nothing_useful circuit state listed (Deliver pin) exists waits owner useful = go (listed (net_of_pin circuit pin) (owner pin exists))
  where
    go : Contains [] (net_of_pin circuit pin) ⊎ IsIdle circuit state (net_of_pin circuit pin) → ⊥
    go (inl found) = let f = found.1 in omega (arith, f)
    go (inr idle) =
        let some = waits pin exists useful in
        let none = ap length (idle.heard pin exists refl) in
        omega (arith, some, none)

-- so the kernel names none
pub names_none : (answer : Option Event) (P : Event → Type 0) → IfSome answer P → ((event : Event) → P event → ⊥) → is_some answer ≡ true → ⊥
names_none None P holds never is = cc
names_none (Some event) P holds never is = never event holds

pub at_none : {A : Type 0} {P : Type 0} (answer : Option A) → is_some answer ≡ false → IfNone answer P → P
at_none None is holds = holds
at_none (Some x) is holds = cc

-- ---- in a run

-- the readers of a net are nets
pub readers_below : (circuit : Circuit) (net : ℕ) → All (λ n. n < length circuit) (map (net_of_pin circuit) (pins_fed net (sources_of circuit)))
readers_below circuit net = λ k d within.
    let long = length-map (pins_fed net (sources_of circuit)) (net_of_pin circuit) in
    let here : k < length (pins_fed net (sources_of circuit)) = omega (arith, within, long) in
    let count = length-sources circuit in
    let pin = pins_fed-within net (sources_of circuit) k 0 here in
    let is = get_or-map (net_of_pin circuit) (pins_fed net (sources_of circuit)) k 0 d here in
    let below = net_of_pin_below circuit (slice_index_or (pins_fed net (sources_of circuit)) k 0) (omega (arith, pin, count)) in
    omega (arith, is, below)

-- and not more than there are pins
pub few_readers : (circuit : Circuit) (net : ℕ) → length (map (net_of_pin circuit) (pins_fed net (sources_of circuit))) ≤ pin_count circuit
few_readers circuit net =
    let long = length-map (pins_fed net (sources_of circuit)) (net_of_pin circuit) in
    let most = length-pins_fed net (sources_of circuit) in
    let count = length-sources circuit in
    omega (arith, long, most, count)

-- a visit of a net, from the start of the run on
pub record IsVisit (start now heard next : KernelView) (net : ℕ) : Type 0 where
  pub led : IsLed start now
  pub hears : HasHeard net now heard
  pub goes : next ≡ record heard { state = step heard.state (Advance net) }
  pub exists : Exists heard.circuit (Advance net)

module _ {start now heard next : KernelView} {net : ℕ} (visit : IsVisit start now heard next net) (ok : IsCircuit start.circuit) where
  heard_led : IsLed start heard
  heard_led = led_on visit.led visit.hears.led

  pub visit_led : start.failed ≡ false → (next.failed ≡ false → IsSound next.circuit next.end next.state) → IsLed start next
  visit_led running sound = led_event heard_led next (Advance net) visit.goes visit.exists running sound

  here : now.circuit ≡ start.circuit
  here = led_circuit visit.led

  ok_here : IsCircuit now.circuit
  ok_here = subst IsCircuit (sym here) ok

  below_here : net < length now.circuit
  below_here = subst (λ circuit. net < length circuit) (led_circuit visit.hears.led) visit.exists

  listed_here : (work : List ℕ) → AllListed start.circuit now.state work → AllListed now.circuit now.state work
  listed_here work = subst (λ circuit. AllListed circuit now.state work) (sym here)

  pub listed_idle : (work : List ℕ) (counts : Counts) → AllListed start.circuit now.state (work ++ net ∷ []) →
      is_useful heard.state (Advance net) ≡ false → step heard.state (Advance net) ≡ record heard.state { counts = counts } →
      AllListed start.circuit next.state work
  listed_idle work counts listed useless same =
      subst (λ circuit. AllListed circuit next.state work) here
      (visited_idle now heard next work net ok_here below_here (listed_here (work ++ net ∷ []) listed) visit.hears visit.goes counts useless same)

  pub listed_useful : (work : List ℕ) → AllListed start.circuit now.state (work ++ net ∷ []) → OthersStay → ListsStay → IsQuiet →
      AllListed start.circuit next.state (work ++ map (net_of_pin start.circuit) (pins_fed net (sources_of start.circuit)))
  listed_useful work listed others lists quiet =
      subst (λ circuit. AllListed circuit next.state (work ++ map (net_of_pin circuit) (pins_fed net (sources_of circuit)))) here
      (visited_useful now heard next work net ok_here below_here (listed_here (work ++ net ∷ []) listed) visit.hears visit.goes others lists quiet)

  -- what is left to do
  heard_left : remaining start.circuit start.end heard.state ≤ remaining start.circuit start.end now.state
  heard_left =
      subst (λ (k : KernelView). remaining k.circuit k.end heard.state ≤ remaining k.circuit k.end now.state) visit.led.run visit.hears.left

  next_left : step heard.state (Advance net) ≡ next.state
  next_left = sym (ap (λ (k : KernelView). k.state) visit.goes)

  there_too : Exists start.circuit (Advance net)
  there_too = led_exists heard_led (Advance net) visit.exists

  pub left_idle : NoneRaises → remaining start.circuit start.end next.state ≤ remaining start.circuit start.end now.state
  left_idle raises =
      most_in_all (remaining start.circuit start.end next.state) (remaining start.circuit start.end heard.state) (remaining start.circuit start.end now.state)
      (subst (λ s. remaining start.circuit start.end s ≤ remaining start.circuit start.end heard.state) next_left
      (raises start.circuit ok start.end heard.state heard_led.sound (Advance net) there_too))
      heard_left

  pub left_useful : UsefulLowers → is_useful heard.state (Advance net) ≡ true →
      remaining start.circuit start.end next.state < remaining start.circuit start.end now.state
  left_useful lowers useful =
      less_in_all (remaining start.circuit start.end next.state) (remaining start.circuit start.end heard.state) (remaining start.circuit start.end now.state)
      (subst (λ s. remaining start.circuit start.end s < remaining start.circuit start.end heard.state) next_left
      (lowers start.circuit ok start.end heard.state heard_led.sound (Advance net) there_too useful))
      heard_left

-- what holds of a list holds of its first part
pub all_first : (P : ℕ → Type 0) (first later : List ℕ) → All P (first ++ later) → All P first
all_first P [] later all = All-nil P
all_first P (x ∷ first) later all =
    All-cons P x first (All-head P x (first ++ later) all) (all_first P first later (All-tail P x (first ++ later) all))
