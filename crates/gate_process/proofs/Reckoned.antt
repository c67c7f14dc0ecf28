-- A process that knows the truth reckons the truth.
use Rattle.std.proofs.Common.{◌≡◌, ℕ, zero, suc, ◌+◌, ◌<◌, ◌≤◌, ◌==◌, nat_lt, min, Bool, true, false, cond, List, [], ◌∷◌, map, length, Option, None, Some, slice_get, refl, ap, sym, ◌∙◌, arith, ltb-false, ltb-true, ◌≢◌, ◌⊎◌, inl, inr}
use Rattle.std.proofs.lemmas.Bool.{cases_lt, eqb-true, eqb-false}
use Rattle.std.proofs.lemmas.Option.{none-some, slice_get-map, get_or_from_slice_get}
use Rattle.std.specs.Option.{option_map, option_map_or}
use Rattle.logic3.specs.declared.value.Value.{Value}
use Rattle.logic3.specs.declared.value.Value.TheVariants.{Unknown}
use Rattle.logic3.specs.declared.gates.GateKind.{GateKind}
use Rattle.logic3.specs.Gate.{Refines, value_of_gate}
use Rattle.logic3.specs.Wave.{value_at, value_before, changes_between}
use Rattle.logic3.proofs.CallerLemmas.{value_at-wave_of, changes_between-same, value_of_gate-Refines}
use Rattle.netlist.specs.declared.part.Part.{Part}
use Rattle.netlist.specs.declared.part.Part.TheVariants.{Input, Gate, Flop}
use Rattle.timing_text.specs.Ranges.{HasClock}
use Rattle.design.specs.Circuit.{Net}
use Rattle.design.specs.Samples.{asked_of_part, asked_tick, first_asker, wire_at}
use Rattle.design.specs.Equations.{later, pin_signals, values_at, equation_of_part, equation}
use Rattle.design.proofs.CallerLemmas.{asked-before, same_later, same_values, source_tick-is, unasked}
use Rattle.gate_process.specs.Knowledge.{Knowledge, seen, seen_pins, as_known, knowledge_of, news_of, Tells}
use Rattle.gate_process.specs.Step.{ProcessState, seen_by, safe_of, frontier_of, reach_of_part, next_frontier, kept_from, signals_of, reckoned, news}
use Rattle.gate_process.specs.Truth.{Meets, KnowsTruth}
use Rattle.gate_process.proofs.Told.{before_kept, news_tells}
use Rattle.gate_process.proofs.Delayed.{shows_later, shows_known, shows_unknown}
use Rattle.gate_process.proofs.SeenPins.{seen_pin}
use Rattle.gate_process.proofs.Frontiers.{least_or-le}
use Rattle.gate_process.proofs.Reach.{next-end, next-settled}

-- what is seen at the pins is what they show, at one tick
same_seen : (wires : List ℕ) (received : List Knowledge) (pins : List ℕ) (signals : ℕ → ℕ → Value) (at : ℕ) → length received ≡ length pins →
    ((place wire source : ℕ) (known : Knowledge) → slice_get wires place ≡ Some wire → slice_get pins place ≡ Some source →
    slice_get received place ≡ Some known → value_at (as_known (seen wire known)) at ≡ later wire (signals source) at) →
    values_at at (signals_of (seen_pins wires received)) ≡ values_at at (pin_signals signals pins wires)
same_seen [] [] [] signals at e h = refl
same_seen [] (known ∷ received) (pin ∷ pins) signals at e h = refl
same_seen (wire ∷ wires) [] [] signals at e h = refl
same_seen wires [] (pin ∷ pins) signals at e h = absurd (omega arith)
same_seen wires (known ∷ received) [] signals at e h = absurd (omega arith)
same_seen (wire ∷ wires) (known ∷ received) (pin ∷ pins) signals at e h =
    let first = h 0 wire pin known refl refl refl in
    let rest = same_seen wires received pins signals at (omega arith) (λ place w source k a b c. h (suc place) w source k a b c) in
    λ i. first i ∷ rest i

-- or it is X where that isn't known
refines_seen : (wires : List ℕ) (received : List Knowledge) (pins : List ℕ) (signals : ℕ → ℕ → Value) (at : ℕ) → length received ≡ length pins →
    ((place wire source : ℕ) (known : Knowledge) → slice_get wires place ≡ Some wire → slice_get pins place ≡ Some source →
    slice_get received place ≡ Some known →
    (value_at (as_known (seen wire known)) at ≡ Unknown) ⊎ (value_at (as_known (seen wire known)) at ≡ later wire (signals source) at)) →
    Refines (values_at at (signals_of (seen_pins wires received))) (values_at at (pin_signals signals pins wires))
refines_seen [] [] [] signals at e h = tt
refines_seen [] (known ∷ received) (pin ∷ pins) signals at e h = tt
refines_seen (wire ∷ wires) [] [] signals at e h = tt
refines_seen wires [] (pin ∷ pins) signals at e h = absurd (omega arith)
refines_seen wires (known ∷ received) [] signals at e h = absurd (omega arith)
refines_seen (wire ∷ wires) (known ∷ received) (pin ∷ pins) signals at e h = (
  h 0 wire pin known refl refl refl,
  refines_seen wires received pins signals at (omega arith) (λ place w source k a b c. h (suc place) w source k a b c),
)

-- where what is known of its pins settles what a gate shows, it shows that
pub settled : (kind : GateKind) (net : Net) (seen pins : List (ℕ → Value)) (tick : ℕ) →
    ((at : ℕ) → asked_of_part (Gate kind) net.timing tick ≡ Some at → Refines (values_at at seen) (values_at at pins)) →
    equation_of_part (Gate kind) net seen tick ≢ Unknown →
    equation_of_part (Gate kind) net seen tick ≡ equation_of_part (Gate kind) net pins tick
settled kind net seen pins tick refines known = go (asked_of_part (Gate kind) net.timing tick) refl known
  where
    go : (asked : Option ℕ) → asked_of_part (Gate kind) net.timing tick ≡ asked →
        option_map_or (λ at. value_of_gate kind (values_at at seen)) asked Unknown ≢ Unknown →
        option_map_or (λ at. value_of_gate kind (values_at at seen)) asked Unknown
        ≡ option_map_or (λ at. value_of_gate kind (values_at at pins)) asked Unknown
    go None is known = refl
    go (Some at) is known = sym (value_of_gate-Refines kind (values_at at seen) (values_at at pins) (refines at is) known)

-- before its new frontier a net asks for ticks at which all its pins are known
asked_known : (net : Net) (end safe tick asked : ℕ) → HasClock net.part net.timing → tick < frontier_of net end safe → asked_tick net tick ≡ Some asked → asked < safe
asked_known net end safe tick asked clock below is = go (first_asker net safe) refl below
  where
    go : (first : Option ℕ) → first_asker net safe ≡ first → tick < option_map_or (min end) first end → asked < safe
    go None none early = absurd (none-some asked (sym (unasked net.timing net.part safe tick none) ∙ is))
    go (Some first) begins early =
        asked-before net.timing net.part clock safe first tick asked begins is (sooner end first early)
      where
        sooner : (end first : ℕ) → tick < min end first → tick < first
        sooner end first h = omega arith

module _ (signals : ℕ → ℕ → Value) (number : ℕ) (process : ProcessState) (meets : Meets signals number process.net)
    (h : KnowsTruth signals number process) where
  -- a pin is seen to show what it does, at a tick that the net may ask for and up to which the pin is known
  pub pin_true : (place wire source : ℕ) (known : Knowledge) (at : ℕ) → slice_get process.net.wires place ≡ Some wire →
      slice_get process.net.pins place ≡ Some source → slice_get process.received place ≡ Some known →
      process.known.frontier ≤ at + process.net.timing.delay → at < known.frontier + wire →
      value_at (as_known (seen wire known)) at ≡ later wire (signals source) at
  pin_true place wire source known at a b c asked below =
      shows_known (seen wire known) at below
      ∙ shows_later wire known.wave at (λ early.
      ap (λ (k : Knowledge). k.wave.before) (h.heard place source known b c)
      ∙ ap (value_before (signals source)) (begins early))
      ∙ same_later (value_at known.wave) (signals source) at wire (λ from is.
      let there = source_tick-is wire at from is in
      ap (λ (k : Knowledge). value_at k.wave from) (h.heard place source known b c)
      ∙ value_at-wave_of (signals source) (kept_from process place known.frontier) known.frontier from
      (kept there) (omega (arith, there, below)))
    where
      here : wire_at process.net place ≡ wire
      here = get_or_from_slice_get process.net.wires place wire 0 a

      begins : at < wire → kept_from process place known.frontier ≡ 0
      begins early = omega (arith, here, asked, early)

      kept : {from : ℕ} → from + wire ≡ at → kept_from process place known.frontier ≤ from
      kept there = omega (arith, here, asked, there)

  -- it is known at least as far as all pins are
  least_known : (place wire : ℕ) (known : Knowledge) → slice_get process.net.wires place ≡ Some wire →
      slice_get process.received place ≡ Some known → safe_of process ≤ known.frontier + wire
  least_known place wire known a c =
      least_or-le process.end (map (λ (k : Knowledge). k.frontier) (seen_by process)) place (known.frontier + wire)
      (slice_get-map (λ (k : Knowledge). k.frontier) (seen_by process) place
      ∙ ap (option_map (λ (k : Knowledge). k.frontier)) (seen_pin process.net.wires process.received place wire known a c))

  -- what isn't known of a pin is seen as X
  pub pin_settles : (place wire source : ℕ) (known : Knowledge) (at : ℕ) → slice_get process.net.wires place ≡ Some wire →
      slice_get process.net.pins place ≡ Some source → slice_get process.received place ≡ Some known →
      process.known.frontier ≤ at + process.net.timing.delay →
      (value_at (as_known (seen wire known)) at ≡ Unknown) ⊎ (value_at (as_known (seen wire known)) at ≡ later wire (signals source) at)
  pin_settles place wire source known at a b c asked = go (cases_lt at (known.frontier + wire))
    where
      go : (at < known.frontier + wire) ⊎ (known.frontier + wire ≤ at) →
          (value_at (as_known (seen wire known)) at ≡ Unknown) ⊎ (value_at (as_known (seen wire known)) at ≡ later wire (signals source) at)
      go (inl below) = inr (pin_true place wire source known at a b c asked below)
      go (inr past) = inl (shows_unknown (seen wire known) at past)

  -- from its frontier on the equation over what was received gives the signal
  equation_true : (tick : ℕ) → process.known.frontier ≤ tick → tick < next_frontier process →
      equation process.net (signals_of (seen_by process)) tick ≡ signals number tick
  equation_true tick after below = go (cases_lt tick sure)
    where
      sure : ℕ
      sure = frontier_of process.net process.end (safe_of process)

      last : next_frontier process ≤ process.end
      last = next-end process

      asks : (at : ℕ) → asked_tick process.net tick ≡ Some at → process.known.frontier ≤ at + process.net.timing.delay
      asks at is = h.asked tick at after (omega (arith, below, last)) is

      on : (part : Part) → process.net.part ≡ part →
          ((at : ℕ) → asked_of_part part process.net.timing tick ≡ Some at → process.known.frontier ≤ at + process.net.timing.delay) →
          sure ≤ tick →
          tick < reach_of_part part (equation process.net (signals_of (seen_by process))) process.end process.known.frontier sure →
          equation_of_part part process.net (signals_of (seen_by process)) tick ≢ Unknown →
          equation_of_part part process.net (signals_of (seen_by process)) tick
          ≡ equation_of_part part process.net (pin_signals signals process.net.pins process.net.wires) tick
      on Input is asked late before known = refl
      on (Gate kind) is asked late before known =
          settled kind process.net (signals_of (seen_by process)) (pin_signals signals process.net.pins process.net.wires) tick
          (λ at asks_at. refines_seen process.net.wires process.received process.net.pins signals at h.pins
          (λ place wire source known a b c. pin_settles place wire source known at a b c (asked at asks_at))) known
      on Flop is asked late before known = absurd (omega (arith, late, before))

      go : (tick < sure) ⊎ (sure ≤ tick) → equation process.net (signals_of (seen_by process)) tick ≡ signals number tick
      go (inl early) =
          same_values process.net.part process.net _ (pin_signals signals process.net.pins process.net.wires) tick (λ at is.
          let safe = asked_known process.net process.end (safe_of process) tick at meets.timed.timing.clock early is in
          same_seen process.net.wires process.received process.net.pins signals at h.pins (λ place wire source known a b c.
          let least = least_known place wire known a c in
          pin_true place wire source known at a b c (asks at is) (omega (arith, least, safe))))
          ∙ sym (meets.solves tick)
      go (inr late) =
          on process.net.part refl asks late below
          (next-settled process tick after late below)
          ∙ sym (meets.solves tick)

  -- an advancing process reckons the signal at every tick from its floor to its next frontier
  pub reckoned_true : (tick : ℕ) → process.floor ≤ tick → tick < next_frontier process → reckoned process tick ≡ signals number tick
  reckoned_true tick from below = go (nat_lt tick process.known.frontier) refl
    where
      go : (early : Bool) → nat_lt tick process.known.frontier ≡ early →
          cond early (value_at process.known.wave tick)
          (equation process.net (signals_of (seen_by process)) tick) ≡ signals number tick
      go true e =
          ap (λ (k : Knowledge). value_at k.wave tick) h.known
          ∙ value_at-wave_of (signals number) process.floor process.known.frontier tick from (ltb-true _ _ e)
      go false e = equation_true tick (ltb-false _ _ e) below

  before_reckoned : (at : ℕ) → at ≤ process.known.frontier → value_before (reckoned process) at ≡ value_before (value_at process.known.wave) at
  before_reckoned zero e = refl
  before_reckoned (suc at) e = go (nat_lt at process.known.frontier) refl
    where
      go : (early : Bool) → nat_lt at process.known.frontier ≡ early →
          cond early (value_at process.known.wave at)
          (equation process.net (signals_of (seen_by process)) at) ≡ value_at process.known.wave at
      go true early = refl
      go false early = absurd (let l = ltb-false at process.known.frontier early in omega arith)

  -- the value before a tick that isn't after the frontier
  pub before_true : (at : ℕ) → process.floor ≤ at → at ≤ process.known.frontier → value_before (reckoned process) at ≡ value_before (signals number) at
  before_true at from to =
      before_reckoned at to
      ∙ ap (λ (k : Knowledge). value_before (value_at k.wave) at) h.known
      ∙ before_kept (signals number) process.floor process.known.frontier at from to

  -- what the process knows after it advances is true
  pub advanced_true : knowledge_of (reckoned process) process.floor (next_frontier process) ≡ knowledge_of (signals number) process.floor (next_frontier process)
  advanced_true =
      let before : value_before (reckoned process) process.floor ≡ value_before (signals number) process.floor =
      before_true process.floor (omega arith) h.floor in
      let changes : changes_between (reckoned process) process.floor (next_frontier process)
      ≡ changes_between (signals number) process.floor (next_frontier process) =
      changes_between-same (reckoned process) (signals number) process.floor (next_frontier process) before reckoned_true in
      cc

  -- what it tells then is true
  pub news_true : Tells (signals number) process.known.frontier (next_frontier process) (news process)
  news_true = go (next_frontier process == process.known.frontier) refl
    where
      changes : changes_between (reckoned process) process.known.frontier (next_frontier process)
          ≡ changes_between (signals number) process.known.frontier (next_frontier process)
      changes =
          let floor = h.floor in
          changes_between-same (reckoned process) (signals number) process.known.frontier (next_frontier process)
          (before_true process.known.frontier floor (omega arith))
          (λ tick a b. reckoned_true tick (omega arith) b)

      go : (same : Bool) → (next_frontier process == process.known.frontier) ≡ same →
          Tells (signals number) process.known.frontier (next_frontier process)
          (cond same [] (news_of (changes_between (reckoned process) process.known.frontier (next_frontier process)) (next_frontier process)))
      go true e = sym (eqb-true _ _ e)
      go false e =
          let apart : next_frontier process ≡ process.known.frontier → ⊥ = eqb-false _ _ e in
          let ahead : process.known.frontier ≤ next_frontier process = h.ahead in
          news_tells (signals number) process.known.frontier (next_frontier process) _ (omega (arith, apart, ahead)) (sym changes)
