-- What events tell of the nets' signals.
use Rattle.std.proofs.Common.{◌≡◌, ℕ, ◌+◌, ◌-◌, ◌<◌, ◌≤◌, ◌==◌, Bool, true, false, cond, List, [], ◌∷◌, ◌++◌, length, take, Some, slice_get, slice_index_or, refl, ap, sym, subst, ◌∙◌, arith, eq-eqb, flat_map}
use Rattle.std.specs.List.{range_with_len}
use Rattle.std.specs.Option.{option_map_or}
use Rattle.std.proofs.lemmas.Bool.Decides.{nat_tests}
use Rattle.std.proofs.lemmas.Option.{slice_get_within, same_Some}
use Rattle.logic3.specs.declared.value.Value.{Value}
use Rattle.logic3.specs.declared.change.Change.{Change}
use Rattle.logic3.specs.Wave.{change_at, changes_between}
use Rattle.logic3.proofs.CallerLemmas.{changes_between-split}
use Rattle.design.specs.Circuit.{Net, Circuit, IsCircuit, pin_count}
use Rattle.design.specs.Equations.{value_of}
use Rattle.design.specs.Pins.{sources_of, net_of_pin, place_of_pin}
use Rattle.design.proofs.CallerLemmas.{source_at, pin_is}
use Rattle.cmb_channels.specs.declared.message.Message.{Message}
use Rattle.cmb_channels.specs.declared.message.Message.TheVariants.{Change as Changes, Null}
use Rattle.cmb_channels.specs.Lists.{update}
use Rattle.cmb_channels.proofs.CallerLemmas.{map-update, get_update_same, view_at, view_of_update_same}
use Rattle.gate_process.specs.Knowledge.{Knowledge, told, news_of, Tells}
use Rattle.gate_process.specs.Step.{ProcessState, next_frontier, reckoned, advanced, news, heard, kept}
use Rattle.gate_process.specs.Truth.{Meets, KnowsTruth}
use Rattle.gate_process.proofs.CallerLemmas.{Tells-le, get_below, news_true}
use Rattle.cmb_events.specs.declared.event.Event.TheVariants.{Deliver, Advance}
use Rattle.cmb_kernel.specs.State.{State, nets_of, frontier_at, received_of, received_at}
use Rattle.cmb_kernel.specs.Step.{news_at, after_deliver, step}
use Rattle.cmb_kernel.specs.Sound.{IsSound}
use Rattle.cmb_kernel.proofs.CallerLemmas.{meets, net_count, net_at}
use Rattle.event_trace.specs.Shown.{changes_in}
use Rattle.event_trace.specs.Told.{told_between}

-- ---- the changes that messages tell

changes_in-news : (changes : List Change) (to : ℕ) → changes_in (news_of changes to) ≡ changes
changes_in-news [] to = refl
changes_in-news (change ∷ []) to = go (change.tick + 1 == to)
  where
    go : (all : Bool) → changes_in (Changes change ∷ cond all [] (Null to ∷ [])) ≡ change ∷ []
    go true = refl
    go false = refl
changes_in-news (change ∷ next ∷ changes) to = ap (λ cs. change ∷ cs) (changes_in-news (next ∷ changes) to)

pub told_changes : (signal : ℕ → Value) (from to : ℕ) (messages : List Message) → Tells signal from to messages →
    changes_between signal from to ≡ changes_in messages
told_changes signal from to [] same =
    let none : to - from ≡ 0 = omega arith in ap (λ n. flat_map (change_at signal) (range_with_len from n)) none
told_changes signal from to (Changes change ∷ messages) tells =
    let after = Tells-le signal (change.tick + 1) to messages tells.2 in
    let early = tells.0 in
    let rest = told_changes signal (change.tick + 1) to messages tells.2 in
    changes_between-split signal from (change.tick + 1) to (omega arith) after
    ∙ ap (λ cs. cs ++ changes_between signal (change.tick + 1) to) tells.1
    ∙ ap (λ cs. change ∷ cs) rest
told_changes signal from to (Null bound ∷ messages) tells =
    let after = Tells-le signal bound to messages tells.2 in
    let early = tells.0 in
    let rest = told_changes signal bound to messages tells.2 in
    changes_between-split signal from bound to (omega arith) after
    ∙ ap (λ cs. cs ++ changes_between signal bound to) tells.1
    ∙ rest

-- ---- what a process tells

news_are : (signals : ℕ → ℕ → Value) (number : ℕ) (process : ProcessState) → Meets signals number process.net → KnowsTruth signals number process →
    news process ≡ told_between (signals number) process.known.frontier (next_frontier process)
news_are signals number process meets knows =
    go (next_frontier process == process.known.frontier) (news_true signals number process meets knows)
  where
    go : (same : Bool) → Tells (signals number) process.known.frontier (next_frontier process)
        (cond same [] (news_of (changes_between (reckoned process) process.known.frontier (next_frontier process)) (next_frontier process))) →
        cond same [] (news_of (changes_between (reckoned process) process.known.frontier (next_frontier process)) (next_frontier process))
        ≡ cond same [] (news_of (changes_between (signals number) process.known.frontier (next_frontier process)) (next_frontier process))
    go true tells = refl
    go false tells =
        let true_changes = told_changes (signals number) process.known.frontier (next_frontier process) _ tells in
        let changes = changes_in-news (changes_between (reckoned process) process.known.frontier (next_frontier process)) (next_frontier process) in
        ap (λ cs. news_of cs (next_frontier process)) (sym changes ∙ sym true_changes)

module _ (circuit : Circuit) (ok : IsCircuit circuit) (last : ℕ) (state : State) (sound : IsSound circuit last state) where
  pub process_at : (number : ℕ) → number < length circuit → (process : ProcessState) × (slice_get state.processes number ≡ Some process)
  process_at number below = let count = net_count circuit last state sound in get_below state.processes number (omega arith)

  -- ---- what an advance tells

  pub frontier_before : (net : ℕ) (process : ProcessState) → slice_get state.processes net ≡ Some process → frontier_at state net ≡ process.known.frontier
  frontier_before net process at = view_at (λ (p : ProcessState). p.known.frontier) state.processes net process at

  pub frontier_after : (net : ℕ) (process : ProcessState) → slice_get state.processes net ≡ Some process →
      frontier_at (step state (Advance net)) net ≡ next_frontier process
  frontier_after net process at = view_of_update_same (λ (p : ProcessState). p.known.frontier) advanced net state.processes process at

  pub advance_told : (net : ℕ) → net < length circuit →
      news_at state net ≡ told_between (value_of circuit net) (frontier_at state net) (frontier_at (step state (Advance net)) net)
  advance_told net below =
      let process = process_at net below in
      let before = frontier_before net process.0 process.1 in
      let after = frontier_after net process.0 process.1 in
      ap (λ place. option_map_or news place []) process.1
      ∙ news_are (value_of circuit) net process.0 (meets circuit ok last state sound net process.0 process.1) (sound.processes net process.0 process.1)
      ∙ (λ i. told_between (value_of circuit net) (sym before i) (sym after i))

  pub advance_ahead : (net : ℕ) → net < length circuit → frontier_at state net ≤ frontier_at (step state (Advance net)) net
  advance_ahead net below =
      let process = process_at net below in
      let before = frontier_before net process.0 process.1 in
      let after = frontier_after net process.0 process.1 in
      let ahead = (sound.processes net process.0 process.1).ahead in
      omega arith

-- ---- what a delivery tells

-- what a pin took tells of its source, from what the pin knew before up to what it knows then
pub record Taken (circuit : Circuit) (pin source : ℕ) (old new : State) (messages : List Message) : Type 0 where
  pub tells : messages ≡ told_between (value_of circuit source) (received_at old pin) (received_at new pin)
  pub ahead : received_at old pin ≤ received_at new pin
  pub within : received_at new pin ≤ frontier_at new source

-- what the pin of a net at a place received
received_is : (circuit : Circuit) (state : State) (pin : ℕ) (process : ProcessState) (received : Knowledge) → nets_of state ≡ circuit →
    slice_get state.processes (net_of_pin circuit pin) ≡ Some process → slice_get process.received (place_of_pin circuit pin) ≡ Some received →
    received_at state pin ≡ received.frontier
received_is circuit state pin process received nets at here =
    ap (λ (c : Circuit). option_map_or (λ (p : ProcessState). received_of p (place_of_pin c pin)) (slice_get state.processes (net_of_pin c pin)) 0) nets
    ∙ ap (λ found. option_map_or (λ (p : ProcessState). received_of p (place_of_pin circuit pin)) found 0) at
    ∙ view_at (λ (k : Knowledge). k.frontier) process.received (place_of_pin circuit pin) received here

-- nothing tells of no tick
told_none : (signal : ℕ → Value) (at : ℕ) → [] ≡ told_between signal at at
told_none signal at = ap (λ same. cond same [] (news_of (changes_between signal at at) at)) (sym (eq-eqb at at refl))

-- a change, and nothing else
told_change : (signal : ℕ → Value) (from : ℕ) (change : Change) → from ≤ change.tick → changes_between signal from (change.tick + 1) ≡ change ∷ [] →
    Changes change ∷ [] ≡ told_between signal from (change.tick + 1)
told_change signal from change later alone =
    let differs : (change.tick + 1 == from) ≡ false = grind (arith, nat_tests) in
    let whole : (change.tick + 1 == change.tick + 1) ≡ true = eq-eqb (change.tick + 1) (change.tick + 1) refl in
    ap (λ all. Changes change ∷ cond all [] (Null (change.tick + 1) ∷ [])) (sym whole)
    ∙ ap (λ cs. news_of cs (change.tick + 1)) (sym alone)
    ∙ ap (λ same. cond same [] (news_of (changes_between signal from (change.tick + 1)) (change.tick + 1))) (sym differs)

-- a null message, and nothing else
told_null : (signal : ℕ → Value) (from to : ℕ) → from < to → changes_between signal from to ≡ [] → Null to ∷ [] ≡ told_between signal from to
told_null signal from to later none =
    let differs : (to == from) ≡ false = grind (arith, nat_tests) in
    ap (λ cs. news_of cs to) (sym none) ∙ ap (λ same. cond same [] (news_of (changes_between signal from to) to)) (sym differs)

module _ (circuit : Circuit) (ok : IsCircuit circuit) (last : ℕ) (state : State) (sound : IsSound circuit last state) (pin : ℕ)
    (process : ProcessState) (received : Knowledge) (source : ℕ)
    (at : slice_get state.processes (net_of_pin circuit pin) ≡ Some process)
    (here : slice_get process.received (place_of_pin circuit pin) ≡ Some received) where
  known : received_at state pin ≡ received.frontier
  known = received_is circuit state pin process received sound.nets at here

  module _ (message : Message) (messages : List Message) where
    -- what the pin received then
    known_after : received_at (after_deliver state pin (message ∷ messages)) pin ≡ (told received message).frontier
    known_after =
        let nets : nets_of (after_deliver state pin (message ∷ messages)) ≡ circuit =
        map-update (λ (p : ProcessState). p.net) (heard (place_of_pin (nets_of state) pin) message) (net_of_pin (nets_of state) pin) state.processes (λ p. refl)
        ∙ sound.nets in
        let there : slice_get (after_deliver state pin (message ∷ messages)).processes (net_of_pin circuit pin)
        ≡ Some (heard (place_of_pin circuit pin) message process) =
        ap (λ (c : Circuit). slice_get (update (heard (place_of_pin c pin) message) (net_of_pin c pin) state.processes) (net_of_pin circuit pin)) sound.nets
        ∙ get_update_same (heard (place_of_pin circuit pin) message) (net_of_pin circuit pin) state.processes process at in
        let heard_there = get_update_same (λ (k : Knowledge). kept process (place_of_pin circuit pin) (told k message)) (place_of_pin circuit pin) process.received received here in
        received_is circuit (after_deliver state pin (message ∷ messages)) pin (heard (place_of_pin circuit pin) message process)
        (kept process (place_of_pin circuit pin) (told received message)) nets there heard_there

    frontier_same : frontier_at (after_deliver state pin (message ∷ messages)) source ≡ frontier_at state source
    frontier_same =
        ap (λ frontiers. slice_index_or frontiers source 0)
        (map-update (λ (p : ProcessState). p.known.frontier) (heard (place_of_pin (nets_of state) pin) message) (net_of_pin (nets_of state) pin)
        state.processes (λ p. refl))

  taken_from : (waiting : List Message) → Tells (value_of circuit source) received.frontier (frontier_at state source) waiting →
      Taken circuit pin source state (after_deliver state pin waiting) (take 1 waiting)
  taken_from [] tells = record {
    tells = told_none (value_of circuit source) (received_at state pin);
    ahead = omega arith;
    within = (let is = known in omega arith);
  }
  taken_from (Changes change ∷ messages) tells =
      let before = known in
      let then' = known_after (Changes change) messages in
      let same = frontier_same (Changes change) messages in
      let later = tells.0 in
      let behind = Tells-le (value_of circuit source) (change.tick + 1) (frontier_at state source) messages tells.2 in
      record {
        tells = told_change (value_of circuit source) received.frontier change later tells.1
            ∙ (λ i. told_between (value_of circuit source) (sym before i) (sym then' i));
        ahead = omega arith;
        within = omega arith;
      }
  taken_from (Null bound ∷ messages) tells =
      let before = known in
      let then' = known_after (Null bound) messages in
      let same = frontier_same (Null bound) messages in
      let later = tells.0 in
      let behind = Tells-le (value_of circuit source) bound (frontier_at state source) messages tells.2 in
      record {
        tells = told_null (value_of circuit source) received.frontier bound later tells.1
            ∙ (λ i. told_between (value_of circuit source) (sym before i) (sym then' i));
        ahead = omega arith;
        within = omega arith;
      }

pub deliver_told : (circuit : Circuit) → IsCircuit circuit → (last : ℕ) (state : State) → IsSound circuit last state → (pin source : ℕ) →
    pin < pin_count circuit → slice_get (sources_of circuit) pin ≡ Some source →
    Taken circuit pin source state (step state (Deliver pin)) (take 1 (slice_index_or state.lists pin []))
deliver_told circuit ok last state sound pin source exists fed =
    let there = pin_is circuit pin exists in
    let below = slice_get_within circuit (net_of_pin circuit pin) there.net there.at in
    let process = process_at circuit ok last state sound (net_of_pin circuit pin) below in
    let own : slice_get circuit (net_of_pin circuit pin) ≡ Some (process.0).net =
    net_at circuit ok last state sound (net_of_pin circuit pin) process.0 process.1 in
    let same : there.net ≡ (process.0).net = same_Some there.net (process.0).net (sym there.at ∙ own) in
    let long = ap (λ (n : Net). length n.pins) same in
    let within = there.within in
    let pins = (sound.processes (net_of_pin circuit pin) process.0 process.1).pins in
    let received = get_below (process.0).received (place_of_pin circuit pin) (omega arith) in
    let feeds = get_below (process.0).net.pins (place_of_pin circuit pin) (omega arith) in
    let is_fed : slice_get (sources_of circuit) pin ≡ Some feeds.0 =
    ap (slice_get (sources_of circuit)) (sym there.number_is)
    ∙ source_at circuit (net_of_pin circuit pin) (place_of_pin circuit pin) feeds.0 (process.0).net own feeds.1 in
    let is : feeds.0 ≡ source = same_Some feeds.0 source (sym is_fed ∙ fed) in
    let tells : Tells (value_of circuit source) (received.0).frontier (frontier_at state source) (slice_index_or state.lists pin []) =
    subst (λ s. Tells (value_of circuit s) (received.0).frontier (frontier_at state s) (slice_index_or state.lists pin [])) is
    (subst (λ at. Tells (value_of circuit feeds.0) (received.0).frontier (frontier_at state feeds.0) (slice_index_or state.lists at [])) there.number_is
    (sound.waiting (net_of_pin circuit pin) (place_of_pin circuit pin) feeds.0 process.0 received.0 process.1 feeds.1 received.1)) in
    taken_from circuit ok last state sound pin process.0 received.0 source process.1 received.1 (slice_index_or state.lists pin []) tells
