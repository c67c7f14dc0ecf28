-- The lines of events, from what a kernel's readers say.
use Rattle.std.proofs.Common.{◌≡◌, ℕ, ◌<◌, ◌≤◌, true, false, List, [], ◌∷◌, ◌++◌, length, Option, None, Some, slice_get, ap, sym, ◌∙◌, arith, append-nil}
use Rattle.std.specs.Option.{option_map, option_map_or}
use Rattle.std.proofs.lemmas.Option.{same_Some}
use Rattle.logic3.specs.declared.value.Value.{Value}
use Rattle.logic3.specs.declared.change.Change.{Change}
use Rattle.logic3.specs.Wave.{Wave, changes_between, changes_within, wave_of}
use Rattle.logic3.proofs.CallerLemmas.{changes_within-between}
use Rattle.design.specs.Circuit.{Net, Circuit, IsCircuit, pin_count}
use Rattle.design.specs.Equations.{value_of}
use Rattle.design.specs.Pins.{sources_of, net_of_pin, place_of_pin}
use Rattle.cmb_channels.specs.declared.message.Message.{Message}
use Rattle.cmb_events.specs.declared.event.Event.{Event}
use Rattle.cmb_events.specs.declared.event.Event.TheVariants.{Deliver, Advance}
use Rattle.cmb_kernel.specs.State.{KernelView, IsUndrained, frontier_at, floor_at, received_at}
use Rattle.cmb_kernel.specs.Step.{step}
use Rattle.cmb_kernel.specs.Sound.{IsSound}
use Rattle.cmb_kernel.proofs.CallerLemmas.{steps_floor}
use Rattle.event_trace.specs.declared.shown_events.ShownEvents.{ShownEvents}
use Rattle.event_trace.specs.Lines.{Line, advances, delivers, line_text, advance_text, deliver_text}
use Rattle.event_trace.specs.ShownLines.{is_shown, shows_event, shown_text}
use Rattle.event_trace.specs.Told.{told_by, told_between}
use Rattle.event_trace.specs.Trace.{line_of}
use Rattle.event_trace.proofs.News.{advance_told, advance_ahead, deliver_told}
use Rattle.event_trace.proofs.ShownTexts.{shown_text-left_out, shown_text-shown}

named : (entry : Option Net) (name : List ℕ) → option_map (λ (n : Net). n.name) entry ≡ Some name → name ≡ option_map_or (λ (n : Net). n.name) entry []
named None name e = cc
named (Some n) name e = sym (same_Some n.name name e)

-- a kernel to which an event happened
module _ (kernel new : KernelView) (event : Event) (goes : new ≡ record kernel { state = step kernel.state event }) (ok : IsCircuit kernel.circuit)
    (sound : IsSound kernel.circuit kernel.end kernel.state) (undrained : IsUndrained kernel.state) where
  pub still_undrained : IsUndrained new.state
  still_undrained net =
      ap (λ s. floor_at s net) (ap (λ (k : KernelView). k.state) goes) ∙ steps_floor kernel.state (event ∷ []) net ∙ undrained net

  -- what a net has shown since
  pub wave_is : (net : ℕ) (wave : Wave) → (floor_at new.state net ≡ 0 → wave ≡ wave_of (value_of new.circuit net) 0 (frontier_at new.state net)) →
      wave ≡ wave_of (value_of kernel.circuit net) 0 (frontier_at (step kernel.state event) net)
  wave_is net wave shows =
      shows (still_undrained net)
      ∙ ap (λ (k : KernelView). wave_of (value_of k.circuit net) 0 (frontier_at k.state net)) goes

-- the changes of a known waveform in a span are those of its signal
span_is : (signal : ℕ → Value) (known from to : ℕ) (wave : Wave) → wave ≡ wave_of signal 0 known → from ≤ to → to ≤ known →
    changes_within from to wave.changes ≡ changes_between signal from to
span_is signal known from to wave shows ordered within =
    ap (λ (w : Wave). changes_within from to w.changes) shows ∙ changes_within-between signal 0 known from to (omega arith) ordered within

pub advanced_line : (kernel new : KernelView) (net : ℕ) → new ≡ record kernel { state = step kernel.state (Advance net) } →
    IsCircuit kernel.circuit → IsSound kernel.circuit kernel.end kernel.state → IsUndrained kernel.state → net < length kernel.circuit →
    (from to : ℕ) → from ≡ frontier_at kernel.state net → to ≡ frontier_at new.state net → (wave : Wave) →
    (floor_at new.state net ≡ 0 → wave ≡ wave_of (value_of new.circuit net) 0 (frontier_at new.state net)) → (changes : List Change) →
    changes ≡ changes_within from to wave.changes →
    advances net from to (told_by changes from to) ≡ line_of kernel.state (Advance net)
advanced_line kernel new net goes ok sound undrained below from to from_is to_is wave shows changes are =
    let after : to ≡ frontier_at (step kernel.state (Advance net)) net =
    to_is ∙ ap (λ (k : KernelView). frontier_at k.state net) goes in
    let ahead = advance_ahead kernel.circuit ok kernel.end kernel.state sound net below in
    let is : changes ≡ changes_between (value_of kernel.circuit net) from to =
    are ∙ span_is (value_of kernel.circuit net) (frontier_at (step kernel.state (Advance net)) net) from to wave
    (wave_is kernel new (Advance net) goes ok sound undrained net wave shows) (omega (arith, from_is, after, ahead)) (omega (arith, after)) in
    let messages = ap (λ cs. told_by cs from to) is ∙ (λ i. told_between (value_of kernel.circuit net) (from_is i) (after i))
    ∙ sym (advance_told kernel.circuit ok kernel.end kernel.state sound net below) in
    λ i. advances net (from_is i) (after i) (messages i)

pub delivered_line : (kernel new : KernelView) (pin : ℕ) → new ≡ record kernel { state = step kernel.state (Deliver pin) } →
    IsCircuit kernel.circuit → IsSound kernel.circuit kernel.end kernel.state → IsUndrained kernel.state → pin < pin_count kernel.circuit →
    (from to : ℕ) → from ≡ received_at kernel.state pin → to ≡ received_at new.state pin → (source : ℕ) →
    slice_get (sources_of kernel.circuit) pin ≡ Some source → (wave : Wave) →
    (floor_at new.state source ≡ 0 → wave ≡ wave_of (value_of new.circuit source) 0 (frontier_at new.state source)) → (changes : List Change) →
    changes ≡ changes_within from to wave.changes → (circuit : Circuit) → kernel.circuit ≡ circuit → (net place : ℕ) →
    net ≡ net_of_pin circuit pin → place ≡ place_of_pin circuit pin →
    delivers net place (told_by changes from to) ≡ line_of kernel.state (Deliver pin)
delivered_line kernel new pin goes ok sound undrained exists from to from_is to_is source fed wave shows changes are circuit same net place net_is place_at =
    let after : to ≡ received_at (step kernel.state (Deliver pin)) pin =
    to_is ∙ ap (λ (k : KernelView). received_at k.state pin) goes in
    let takes = deliver_told kernel.circuit ok kernel.end kernel.state sound pin source exists fed in
    let ahead = takes.ahead in
    let within = takes.within in
    let is : changes ≡ changes_between (value_of kernel.circuit source) from to =
    are ∙ span_is (value_of kernel.circuit source) (frontier_at (step kernel.state (Deliver pin)) source) from to wave
    (wave_is kernel new (Deliver pin) goes ok sound undrained source wave shows) (omega (arith, from_is, after, ahead)) (omega (arith, after, within)) in
    let messages = ap (λ cs. told_by cs from to) is ∙ (λ i. told_between (value_of kernel.circuit source) (from_is i) (after i)) ∙ sym takes.tells in
    let nets = sym same ∙ sym sound.nets in
    let own = net_is ∙ ap (λ c. net_of_pin c pin) nets in
    let there = place_at ∙ ap (λ c. place_of_pin c pin) nets in
    λ i. delivers (own i) (there i) (messages i)

-- ---- the text that is added for an event

-- the line of an event, with its text, is added if it is shown
module _ (shown : ShownEvents) (circuit : Circuit) (line : Line) (text : List ℕ) where
  line_added : (written : List ℕ) → written ≡ line_text circuit line → is_shown shown line ≡ true → (after : List ℕ) → after ≡ text ++ written →
      after ≡ text ++ shown_text shown circuit (line ∷ [])
  line_added written is holds after added = added ∙ ap (λ (t : List ℕ). text ++ t) (is ∙ shown_text-shown shown circuit line holds)

  line_left_out : is_shown shown line ≡ false → text ≡ text ++ shown_text shown circuit (line ∷ [])
  line_left_out lacks = sym (append-nil text) ∙ ap (λ (t : List ℕ). text ++ t) (shown_text-left_out shown circuit line lacks)

module _ (shown : ShownEvents) (circuit : Circuit) (net : ℕ) (name : List ℕ) (name_is : option_map (λ (n : Net). n.name) (slice_get circuit net) ≡ Some name) where
  pub advance_added : (line : Line) (from to : ℕ) (told : List Message) → advances net from to told ≡ line → shows_event shown net told ≡ true →
      (text after : List ℕ) → after ≡ text ++ advance_text name from to told → after ≡ text ++ shown_text shown circuit (line ∷ [])
  advance_added line from to told is holds text after added =
      line_added shown circuit line text (advance_text name from to told)
      (ap (λ (called : List ℕ). advance_text called from to told) (named (slice_get circuit net) name name_is) ∙ ap (line_text circuit) is)
      (sym (ap (is_shown shown) is) ∙ holds) after added

  pub delivery_added : (line : Line) (place : ℕ) (taken : List Message) → delivers net place taken ≡ line → shows_event shown net taken ≡ true →
      (text after : List ℕ) → after ≡ text ++ deliver_text name place taken → after ≡ text ++ shown_text shown circuit (line ∷ [])
  delivery_added line place taken is holds text after added =
      line_added shown circuit line text (deliver_text name place taken)
      (ap (λ (called : List ℕ). deliver_text called place taken) (named (slice_get circuit net) name name_is) ∙ ap (line_text circuit) is)
      (sym (ap (is_shown shown) is) ∙ holds) after added

pub advance_left_out : (shown : ShownEvents) (circuit : Circuit) (line : Line) (net from to : ℕ) (told : List Message) → advances net from to told ≡ line →
    shows_event shown net told ≡ false → (text : List ℕ) → text ≡ text ++ shown_text shown circuit (line ∷ [])
advance_left_out shown circuit line net from to told is lacks text = line_left_out shown circuit line text (sym (ap (is_shown shown) is) ∙ lacks)

pub delivery_left_out : (shown : ShownEvents) (circuit : Circuit) (line : Line) (net place : ℕ) (taken : List Message) → delivers net place taken ≡ line →
    shows_event shown net taken ≡ false → (text : List ℕ) → text ≡ text ++ shown_text shown circuit (line ∷ [])
delivery_left_out shown circuit line net place taken is lacks text = line_left_out shown circuit line text (sym (ap (is_shown shown) is) ∙ lacks)
