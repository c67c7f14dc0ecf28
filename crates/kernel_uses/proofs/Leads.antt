-- Events one after another, and what a kernel keeps over them.
use Rattle.std.proofs.Common.{◌≡◌, ℕ, ◌+◌, ◌*◌, ◌<◌, ◌≤◌, true, false, cond, nat_lt, List, [], ◌∷◌, ◌++◌, length, slice_index_or, refl, ap, sym, subst, ◌∙◌, arith, length-append}
use Rattle.std.specs.List.{All}
use Rattle.std.proofs.lemmas.List.Elements.{All-nil, All-cons, All-append}
use Rattle.std.proofs.Math.Nat.{add-mul, mul_comm, mul-le-mul}
use Rattle.timing_text.specs.Ranges.{most_ticks}
use Rattle.netlist.specs.Netlist.{most_nets, most_pins}
use Rattle.design.specs.Circuit.{Circuit, IsCircuit, pin_count}
use Rattle.design.specs.Equations.{waves_of}
use Rattle.cmb_channels.specs.declared.message.Message.{Message}
use Rattle.cmb_events.specs.declared.event.Event.{Event}
use Rattle.cmb_events.specs.declared.event.Event.TheVariants.{Deliver, Advance}
use Rattle.cmb_events.specs.Schedule.{Exists}
use Rattle.cmb_kernel.specs.State.{KernelView, State, IsComplete, IsUndrained, floor_at, frontier_at, most_rounds, waves_in}
use Rattle.cmb_kernel.specs.declared.counts.Counts.{Counts}
use Rattle.cmb_kernel.specs.Step.{after_deliver, completed_within, step, steps}
use Rattle.cmb_kernel.specs.Sound.{IsSound, waves_kept}
use Rattle.cmb_kernel.specs.Sweeps.{EventsLead}
use Rattle.cmb_kernel.specs.Useful.{is_useful, progress, useful_count}
use Rattle.cmb_kernel.proofs.CallerLemmas.{shows_as_rounds, steps_floor, steps-append}
use Rattle.kernel_uses.specs.Runs.{IsCompleted, IsLed, UsefulEventsLead}

-- ---- one event more

useful-more : (state : State) (events : List Event) (event : Event) → is_useful (steps state events) event ≡ true →
    useful_count state (events ++ event ∷ []) ≡ useful_count state events + 1
useful-more state [] event useful = ap (λ b. cond b 1 0 + 0) useful
useful-more state (first ∷ events) event useful =
    let rest = useful-more (step state first) events event useful in omega (arith, rest)

module _ (circuit : Circuit) where
  pub leads_nowhere : (state : State) → EventsLead circuit state state
  leads_nowhere state = record { events = []; exist = All-nil (Exists circuit); leads = refl }

  pub leads_more : {old now : State} (event : Event) → EventsLead circuit old now → Exists circuit event → EventsLead circuit old (step now event)
  leads_more {old} {now} event so_far exists = record {
    events = so_far.events ++ event ∷ [];
    exist = All-append (Exists circuit) so_far.events (event ∷ []) so_far.exist (All-cons (Exists circuit) event [] exists (All-nil (Exists circuit)));
    leads = steps-append old so_far.events (event ∷ []) ∙ ap (λ s. step s event) so_far.leads;
  }

  pub useful_nowhere : (state : State) → UsefulEventsLead circuit state state 0
  useful_nowhere state = record { events = []; exist = All-nil (Exists circuit); leads = refl; useful = refl; all = refl }

  pub useful_leads_more : {old now : State} {count : ℕ} (event : Event) → UsefulEventsLead circuit old now count → Exists circuit event →
      is_useful now event ≡ true → UsefulEventsLead circuit old (step now event) (count + 1)
  useful_leads_more {old} {now} {count} event so_far exists useful = record {
    events = so_far.events ++ event ∷ [];
    exist = All-append (Exists circuit) so_far.events (event ∷ []) so_far.exist (All-cons (Exists circuit) event [] exists (All-nil (Exists circuit)));
    leads = steps-append old so_far.events (event ∷ []) ∙ ap (λ s. step s event) so_far.leads;
    useful = useful-more old so_far.events event (ap (λ s. is_useful s event) so_far.leads ∙ useful) ∙ ap (λ n. n + 1) so_far.useful;
    all = length-append so_far.events (event ∷ []) ∙ ap (λ n. n + 1) so_far.all;
  }

  pub useful_leads : {old now : State} {count : ℕ} → UsefulEventsLead circuit old now count → EventsLead circuit old now
  useful_leads so_far = record { events = so_far.events; exist = so_far.exist; leads = so_far.leads }

-- ---- a kernel over events

pub led_nowhere : (old : KernelView) → IsSound old.circuit old.end old.state → IsLed old old
led_nowhere old sound = record { run = refl; sound = sound; events = leads_nowhere old.circuit old.state }

module _ {old now : KernelView} (led : IsLed old now) where
  pub led_circuit : now.circuit ≡ old.circuit
  led_circuit = ap (λ (k : KernelView). k.circuit) led.run

  pub led_running : old.failed ≡ false → now.failed ≡ false
  led_running running = ap (λ (k : KernelView). k.failed) led.run ∙ running

  pub led_exists : (event : Event) → Exists now.circuit event → Exists old.circuit event
  led_exists event exists = subst (λ c. Exists c event) led_circuit exists

  module _ (next : KernelView) (event : Event) (goes : next ≡ record now { state = step now.state event }) (exists : Exists now.circuit event) where
    pub next_state : step now.state event ≡ next.state
    next_state = sym (ap (λ (k : KernelView). k.state) goes)

    -- and after one event more
    pub led_event : old.failed ≡ false → (next.failed ≡ false → IsSound next.circuit next.end next.state) → IsLed old next
    led_event running sound = record {
      run = goes ∙ ap (λ (k : KernelView). record k { state = step now.state event }) led.run ∙ ap (λ s. record old { state = s }) next_state;
      sound = subst (λ c. IsSound c old.end next.state) (ap (λ (k : KernelView). k.circuit) goes ∙ led_circuit)
          (subst (λ e. IsSound next.circuit e next.state) (ap (λ (k : KernelView). k.end) goes ∙ ap (λ (k : KernelView). k.end) led.run)
          (sound (ap (λ (k : KernelView). k.failed) goes ∙ led_running running)));
      events = subst (EventsLead old.circuit old.state) next_state (leads_more old.circuit event led.events (led_exists event exists));
    }

    -- a useful one
    pub useful_event : {count : ℕ} → UsefulEventsLead old.circuit old.state now.state count → is_useful now.state event ≡ true →
        UsefulEventsLead old.circuit old.state next.state (count + 1)
    useful_event {count} so_far useful =
        subst (λ s. UsefulEventsLead old.circuit old.state s (count + 1)) next_state
        (useful_leads_more old.circuit event so_far (led_exists event exists) useful)

  -- a run that no event can lead on is complete
  pub completed : IsCircuit old.circuit → IsSound old.circuit old.end old.state → IsComplete now.state → ((net : ℕ) → net < length now.circuit → frontier_at now.state net ≡ now.end) →
      waves_in now.state ≡ waves_kept now.circuit now.end now.state →
      (IsUndrained now.state → waves_in now.state ≡ waves_of now.circuit now.end) → IsCompleted old now
  completed ok began complete frontiers waves undrained = record {
    run = led.run;
    events = led.events;
    sound = led.sound;
    complete = complete;
    frontiers = subst (λ (k : KernelView). (net : ℕ) → net < length k.circuit → frontier_at now.state net ≡ k.end) led.run frontiers;
    floors = floors;
    waves = subst (λ (k : KernelView). waves_in now.state ≡ waves_kept k.circuit k.end now.state) led.run waves;
    undrained = λ undrained_before.
        subst (λ (k : KernelView). waves_in now.state ≡ waves_of k.circuit k.end) led.run
        (undrained (λ net. floors net ∙ undrained_before net));
    as_rounds = subst (λ s. waves_in s ≡ waves_in (completed_within (most_rounds old.end old.circuit) old.state)) led.events.leads
        (shows_as_rounds old.circuit ok old.end old.state led.events.events began led.events.exist
        (subst IsComplete (sym led.events.leads) complete));
  }
    where
      floors : (net : ℕ) → floor_at now.state net ≡ floor_at old.state net
      floors net = sym (ap (λ s. floor_at s net) led.events.leads) ∙ steps_floor old.state led.events.events net

pub led_on : {old now next : KernelView} → IsLed old now → IsLed now next → IsLed old next
led_on {old} {now} {next} first later = record {
  run = later.run ∙ ap (λ (k : KernelView). record k { state = next.state }) first.run;
  sound = subst (λ (k : KernelView). IsSound k.circuit k.end next.state) first.run later.sound;
  events = record {
    events = first.events.events ++ later.events.events;
    exist = All-append (Exists old.circuit) first.events.events later.events.events first.events.exist
        (subst (λ c. All (Exists c) later.events.events) (led_circuit first) later.events.exist);
    leads = steps-append old.state first.events.events later.events.events ∙ ap (λ s. steps s later.events.events) first.events.leads
        ∙ later.events.leads;
  };
}

-- ---- how many

-- so many events are useful, at most, as the kernel's law says it
pub count_within : (circuit : Circuit) (last : ℕ) (old new : State) (count : ℕ) →
    ((events : List Event) → All (Exists circuit) events → useful_count old events ≤ length circuit * last + pin_count circuit * last) →
    UsefulEventsLead circuit old new count → count ≤ last * (length circuit + pin_count circuit)
count_within circuit last old new count bound lead =
    spread last (length circuit) (pin_count circuit) (useful_count old lead.events) count lead.useful (bound lead.events lead.exist)
  where
    spread : (last nets pins useful count : ℕ) → useful ≡ count → useful ≤ nets * last + pins * last → count ≤ last * (nets + pins)
    spread last nets pins useful count is within = let over = mul_comm last (nets + pins) ∙ add-mul nets pins last in omega (arith, within, over, is)

-- which a u64 can count
pub most_fits : (end nets pins count : ℕ) → end ≤ most_ticks + 1 → nets ≤ most_nets → pins ≤ most_pins → count ≤ end * (nets + pins) →
    count < 18_446_744_073_709_551_616
most_fits end nets pins count few_ticks few_nets few_pins within =
    let most = mul-le-mul {n₁ = end} {m₁ = nets + pins} {n₂ = 10_000_001} {m₂ = 1_100_000} (omega (arith, few_ticks)) (omega (arith, few_nets, few_pins)) in
    omega (arith, most, within)

-- ---- an event that turned out useless

-- what is counted plays no part in whether an event is useful
pub counts_play_no_part : (state : State) (counts : Counts) (event : Event) → is_useful (record state { counts = counts }) event ≡ is_useful state event
counts_play_no_part state counts (Advance net) = refl
counts_play_no_part state counts (Deliver pin) = go (slice_index_or state.lists pin [])
  where
    go : (messages : List Message) → nat_lt (progress state) (progress (after_deliver (record state { counts = counts }) pin messages))
        ≡ nat_lt (progress state) (progress (after_deliver state pin messages))
    go [] = refl
    go (message ∷ messages) = refl

pub less_in_all : (last middle first : ℕ) → last < middle → middle ≤ first → last < first
less_in_all last middle first less most = omega arith
