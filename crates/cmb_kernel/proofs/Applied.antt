-- What an event makes of the parts of a running kernel.
use Rattle.std.proofs.Common.{◌≡◌, ℕ, zero, suc, ◌+◌, ◌*◌, ◌<◌, ◌≤◌, ◌==◌, not, Bool, true, false, cond, List, [], ◌∷◌, map, length, drop, sum_by, count_by, Some, slice_get, slice_index_or, slice_set, refl, ap, sym, subst, ◌∙◌, arith}
use Rattle.std.specs.Option.{option_map_or}
use Rattle.std.proofs.lemmas.Bool.{eqb-true, eqb-false}
use Rattle.std.proofs.lemmas.List.{map-set, set-get_or}
use Rattle.std.proofs.lemmas.List.Sums.{sum_by-cons, sum_by-le}
use Rattle.std.proofs.lemmas.Option.{slice_get-get_or}
use Rattle.std.proofs.Math.Dec.{eqb-suc-zero}
use Rattle.std.proofs.Math.Nat.{mul-le-mul_right}
use Rattle.logic3.specs.declared.value.Value.{Value}
use Rattle.logic3.specs.declared.change.Change.{Change}
use Rattle.logic3.specs.Wave.{changes_between}
use Rattle.design.specs.Circuit.{pin_count}
use Rattle.design.specs.Design.{DesignView}
use Rattle.design.specs.Equations.{value_of}
use Rattle.design.specs.Pins.{sources_of, net_of_pin, place_of_pin}
use Rattle.design.proofs.CallerLemmas.{net_limit}
use Rattle.cmb_channels.specs.declared.message.Message.{Message}
use Rattle.cmb_channels.specs.declared.message.Message.TheVariants.{Change as Changes, Null}
use Rattle.cmb_channels.specs.Kinds.{is_change, is_null}
use Rattle.cmb_channels.specs.Lists.{update, sent, taken}
use Rattle.cmb_channels.proofs.CallerLemmas.{update-set, taken_at}
use Rattle.gate_process.specs.Knowledge.{news_of, Tells}
use Rattle.gate_process.specs.Step.{ProcessState, ProcessView, running, next_frontier, reckoned, advanced, news, heard}
use Rattle.gate_process.specs.Truth.{CanHear}
use Rattle.gate_process.proofs.CallerLemmas.{next-end, news_true, no_news}
use Rattle.cmb_kernel.specs.declared.counts.Counts.{Counts}
use Rattle.cmb_events.specs.declared.event.Event.{Event}
use Rattle.cmb_events.specs.declared.event.Event.TheVariants.{Deliver, Advance}
use Rattle.cmb_kernel.specs.State.{State, nets_of}
use Rattle.cmb_kernel.specs.Step.{counted, news_at, after_deliver, step}
use Rattle.cmb_kernel.specs.Useful.{is_useful}
use Rattle.cmb_kernel.specs.Sound.{IsSound}
use Rattle.cmb_kernel.specs.Running.{state_of, IsRunning}
use Rattle.cmb_kernel.proofs.Soundness.{net_at, meets_at, step_sound}
use Rattle.cmb_kernel.proofs.LeastFrontier.{net_count}
use Rattle.cmb_kernel.proofs.Completion.{frontier_within}
use Rattle.cmb_kernel.proofs.Consequences.{can_hear}
use Rattle.cmb_kernel.proofs.UsefulEvents.{sum_by-update, deliver_useful, deliver_useless, advance_useful, advance_useless}
use Rattle.cmb_kernel.proofs.Running.{circuit_ok, runs_at}

-- ---- messages

-- each message raises what is known by a tick at least
length-Tells : (signal : ℕ → Value) (from to : ℕ) (messages : List Message) → Tells signal from to messages → from + length messages ≤ to
length-Tells signal from to [] tells = omega arith
length-Tells signal from to (Changes change ∷ messages) tells =
    let first = tells.0 in
    let rest = length-Tells signal (change.tick + 1) to messages tells.2 in
    omega arith
length-Tells signal from to (Null bound ∷ messages) tells =
    let first = tells.0 in
    let rest = length-Tells signal bound to messages tells.2 in
    omega arith

-- a message is a change or a null
all_counted : (messages : List Message) → count_by is_change messages + count_by is_null messages ≡ length messages
all_counted [] = refl
all_counted (Changes change ∷ messages) =
    let changes = sum_by-cons (λ m. cond (is_change m) 1 0) (Changes change) messages in
    let nulls = sum_by-cons (λ m. cond (is_null m) 1 0) (Changes change) messages in
    let rest = all_counted messages in
    omega arith
all_counted (Null bound ∷ messages) =
    let changes = sum_by-cons (λ m. cond (is_change m) 1 0) (Null bound) messages in
    let nulls = sum_by-cons (λ m. cond (is_null m) 1 0) (Null bound) messages in
    let rest = all_counted messages in
    omega arith

-- a process has something to tell where its frontier changes
some_message : (changes : List Change) (to : ℕ) → (length (news_of changes to) == 0) ≡ false
some_message [] to = refl
some_message (change ∷ []) to = eqb-suc-zero _
some_message (change ∷ next ∷ changes) to = eqb-suc-zero _

some_news : (process : ProcessState) → (next_frontier process == process.known.frontier) ≡ false → (length (news process) == 0) ≡ false
some_news process e =
    ap (λ same. length (cond same [] (news_of (changes_between (reckoned process) process.known.frontier (next_frontier process)) (next_frontier process))) == 0) e
    ∙ some_message (changes_between (reckoned process) process.known.frontier (next_frontier process)) (next_frontier process)

-- ---- the parts after an event

-- the parts are those after an event that answered this
pub record IsApplied (design : DesignView) (end : ℕ) (processes : List ProcessView) (sources : List ℕ) (nets : ℕ) (lists : List (List Message))
    (counts : Counts) (old : State) (event : Event) (answer : Bool) : Type 0 where
  pub state : state_of processes lists counts ≡ step old event
  pub all : IsRunning design end processes sources nets (state_of processes lists counts)
  pub useful : answer ≡ is_useful old event

module _ {design : DesignView} {end : ℕ} {processes : List ProcessView} {sources : List ℕ} {nets : ℕ} {lists : List (List Message)}
    {counts : Counts} (all : IsRunning design end processes sources nets (state_of processes lists counts)) where
  -- what a net tells is true
  news_tell : (net : ℕ) (process : ProcessView) → slice_get processes net ≡ Some process →
      Tells (value_of design.circuit net) process.state.known.frontier (next_frontier process.state) (news process.state)
  news_tell net process is =
      let at = (runs_at all net process is).at in
      let ok = circuit_ok all in
      news_true (value_of design.circuit) net process.state
      (meets_at design.circuit ok net process.state.net (net_at design.circuit ok end (state_of processes lists counts) all.sound net process.state at))
      (all.sound.processes net process.state at)

  -- each message that a net tells raises its frontier
  news_raise : (net : ℕ) (process : ProcessView) → slice_get processes net ≡ Some process →
      process.state.known.frontier + length (news process.state) ≤ next_frontier process.state
  news_raise net process is =
      length-Tells (value_of design.circuit net) process.state.known.frontier (next_frontier process.state) (news process.state)
      (news_tell net process is)

  -- no net tells of a tick past the end
  next_within : (net : ℕ) (process : ProcessView) → slice_get processes net ≡ Some process →
      next_frontier process.state ≤ end
  next_within net process is =
      let at = (runs_at all net process is).at in
      omega (arith, next-end process.state, all.sound.ends net process.state at)

  -- all messages are no more than the ticks of all nets
  message_bound : counts.changes + counts.nulls ≤ 100_000 * end
  message_bound =
      let each = sum_by-le (λ (p : ProcessState). p.known.frontier) end (map (λ (p : ProcessView). p.state) processes)
      (λ number default below.
      frontier_within design.circuit end number (state_of processes lists counts) _ all.sound
      (slice_get-get_or (map (λ (p : ProcessView). p.state) processes) number default below)) in
      let nets = net_count design.circuit end (state_of processes lists counts) all.sound in
      let limit = net_limit design all.well_formed in
      let most : length (map (λ (p : ProcessView). p.state) processes) * end ≤ 100_000 * end = mul-le-mul_right end (omega arith) in
      let sum = all.messages in
      omega (arith, each, most, sum)

  -- so the counts do not overflow, nor do they with the next messages of a net
  pub few_before : counts.changes + counts.nulls + 0 < 18_446_744_073_709_551_616
  few_before = let bound = message_bound in let last = all.within in omega (arith, bound, last)

  pub few_messages : (net : ℕ) (process : ProcessView) → slice_get processes net ≡ Some process →
      counts.changes + counts.nulls + length (news process.state) < 18_446_744_073_709_551_616
  few_messages net process is =
      omega (arith, news_raise net process is, next_within net process is, message_bound, all.within)

  module _ (net : ℕ) (process : ProcessView) (is : slice_get processes net ≡ Some process)
      (change : ProcessState → ProcessState) where
    -- the process of a net changed
    pub changed : map (λ (p : ProcessView). p.state) (slice_set processes net (running (change process.state)))
        ≡ update change net (map (λ (p : ProcessView). p.state) processes)
    changed =
        map-set (λ (p : ProcessView). p.state) processes net (running (change process.state))
        ∙ sym (update-set change net (map (λ (p : ProcessView). p.state) processes) process.state (runs_at all net process is).at)

    pub changed_runs : slice_set processes net (running (change process.state))
        ≡ map running (map (λ (p : ProcessView). p.state) (slice_set processes net (running (change process.state))))
    changed_runs =
        ap (λ ps. slice_set ps net (running (change process.state))) all.all_run
        ∙ sym (map-set running (map (λ (p : ProcessView). p.state) processes) net (change process.state))
        ∙ ap (map running) (sym (map-set (λ (p : ProcessView). p.state) processes net (running (change process.state))))

    pub changed_frontiers : sum_by (λ (p : ProcessState). p.known.frontier)
        (map (λ (p : ProcessView). p.state) (slice_set processes net (running (change process.state)))) + process.state.known.frontier
        ≡ sum_by (λ (p : ProcessState). p.known.frontier) (map (λ (p : ProcessView). p.state) processes) + (change process.state).known.frontier
    changed_frontiers =
        ap (λ ps. sum_by (λ (p : ProcessState). p.known.frontier) ps + process.state.known.frontier) changed
        ∙ sum_by-update (λ (p : ProcessState). p.known.frontier) change net (map (λ (p : ProcessView). p.state) processes) process.state
        (runs_at all net process is).at

  -- nothing waited at the pin, where what waits is what is left behind its front
  pub none_waits : (pin : ℕ) → pin < pin_count design.circuit → slice_index_or lists pin [] ≡ slice_index_or (taken pin lists) pin [] →
      slice_index_or lists pin [] ≡ []
  none_waits pin exists same =
      let count = all.sound.lists in shorter (slice_index_or lists pin []) (same ∙ taken_at pin lists (omega arith))
    where
      shorter : (messages : List Message) → messages ≡ drop 1 messages → messages ≡ []
      shorter [] e = refl
      shorter (message ∷ messages) e = let less = ap length e in absurd (omega arith)

  pub nothing_came : (pin : ℕ) → pin < pin_count design.circuit → slice_index_or lists pin [] ≡ [] →
      IsApplied design end processes sources nets (taken pin lists) (counted counts []) (state_of processes lists counts) (Deliver pin) false
  nothing_came pin exists empty = record {
    state = after;
    all = record {
      well_formed = all.well_formed;
      within = all.within;
      all_run = all.all_run;
      feeds = all.feeds;
      all_nets = all.all_nets;
      messages = let sum = all.messages in omega arith;
      sound = subst (IsSound design.circuit end) (sym after)
          (step_sound design.circuit (circuit_ok all) end (state_of processes lists counts) (Deliver pin) all.sound exists);
    };
    useful = sym (deliver_useless (state_of processes lists counts) pin empty);
  }
    where
      after : state_of processes (taken pin lists) (counted counts []) ≡ step (state_of processes lists counts) (Deliver pin)
      after =
          ap (λ ls. state_of processes ls (counted counts []))
          (ap (λ ms. slice_set lists pin (drop 1 ms)) empty ∙ ap (slice_set lists pin) (sym empty) ∙ set-get_or lists pin [])
          ∙ ap (after_deliver (state_of processes lists counts) pin) (sym empty)

  module _ (pin net place : ℕ) (message : Message) (messages : List Message) (process : ProcessView)
      (exists : pin < pin_count design.circuit) (waiting : slice_index_or lists pin [] ≡ message ∷ messages)
      (net_is : net ≡ net_of_pin design.circuit pin) (place_is : place ≡ place_of_pin design.circuit pin)
      (is : slice_get processes net ≡ Some process) where
    below : pin < length lists
    below = let count = all.sound.lists in omega arith

    net_there : net ≡ net_of_pin (nets_of (state_of processes lists counts)) pin
    net_there = net_is ∙ ap (λ c. net_of_pin c pin) (sym all.sound.nets)

    place_there : place ≡ place_of_pin (nets_of (state_of processes lists counts)) pin
    place_there = place_is ∙ ap (λ c. place_of_pin c pin) (sym all.sound.nets)

    pub can_be_told : CanHear process.state place message
    can_be_told =
        subst (λ at. CanHear process.state at message) (sym place_there)
        (can_hear design.circuit (circuit_ok all) end (state_of processes lists counts) all.sound pin message messages waiting below process.state
        (subst (λ n. slice_get (map (λ (p : ProcessView). p.state) processes) n ≡ Some process.state) net_there (runs_at all net process is).at))

    -- its process was told the first message
    pub message_came : IsApplied design end (slice_set processes net (running (heard place message process.state))) sources nets
        (taken pin lists) (counted counts []) (state_of processes lists counts) (Deliver pin) true
    message_came = record {
      state = after;
      all = record {
        well_formed = all.well_formed;
        within = all.within;
        all_run = changed_runs net process is (heard place message);
        feeds = all.feeds;
        all_nets = all.all_nets;
        messages = let sum = all.messages in let same = changed_frontiers net process is (heard place message) in omega (arith, sum, same);
        sound = subst (IsSound design.circuit end) (sym after)
            (step_sound design.circuit (circuit_ok all) end (state_of processes lists counts) (Deliver pin) all.sound exists);
      };
      useful = sym (deliver_useful design.circuit (circuit_ok all) end (state_of processes lists counts) all.sound pin message messages waiting below);
    }
      where
        after : state_of (slice_set processes net (running (heard place message process.state))) (taken pin lists) (counted counts [])
            ≡ step (state_of processes lists counts) (Deliver pin)
        after =
            ap (λ ps. record { processes = ps; lists = taken pin lists; counts = counted counts [] })
            (changed net process is (heard place message)
            ∙ ap (λ at. update (heard at message) net (map (λ (p : ProcessView). p.state) processes)) place_there
            ∙ ap (λ n. update (heard (place_of_pin (nets_of (state_of processes lists counts)) pin) message) n (map (λ (p : ProcessView). p.state) processes)) net_there)
            ∙ ap (after_deliver (state_of processes lists counts) pin) (sym waiting)

  -- an Advance that raises the net's frontier is useful
  pub farther_useful : (net : ℕ) (process : ProcessView) → slice_get processes net ≡ Some process →
      process.state.known.frontier < next_frontier process.state → is_useful (state_of processes lists counts) (Advance net) ≡ true
  farther_useful net process is farther =
      advance_useful (state_of processes lists counts) net process.state (runs_at all net process is).at farther

  -- a net advanced
  pub net_advanced : (net : ℕ) (process : ProcessView) → net < length design.circuit → slice_get processes net ≡ Some process →
      IsApplied design end (slice_set processes net (running (advanced process.state))) sources nets
      (sent net (news process.state) sources lists) (counted counts (news process.state)) (state_of processes lists counts) (Advance net)
      (not (length (news process.state) == 0))
  net_advanced net process below is = record {
    state = after;
    all = record {
      well_formed = all.well_formed;
      within = all.within;
      all_run = changed_runs net process is advanced;
      feeds = all.feeds;
      all_nets = all.all_nets;
      messages =
          let sum = all.messages in
          let frontiers = changed_frontiers net process is advanced in
          let raised = news_raise net process is in
          let count = all_counted (news process.state) in
          omega (arith, sum, frontiers, raised, count);
      sound = subst (IsSound design.circuit end) (sym after)
          (step_sound design.circuit (circuit_ok all) end (state_of processes lists counts) (Advance net) all.sound below);
    };
    useful = useful (next_frontier process.state == process.state.known.frontier) refl;
  }
    where
      at : slice_get (map (λ (p : ProcessView). p.state) processes) net ≡ Some process.state
      at = (runs_at all net process is).at

      told : news process.state ≡ news_at (state_of processes lists counts) net
      told = ap (λ place. option_map_or news place []) (sym at)

      feeds : sources ≡ sources_of (nets_of (state_of processes lists counts))
      feeds = all.feeds ∙ ap sources_of (sym all.sound.nets)

      after : state_of (slice_set processes net (running (advanced process.state))) (sent net (news process.state) sources lists)
          (counted counts (news process.state))
          ≡ step (state_of processes lists counts) (Advance net)
      after =
          ap (λ ps. record { processes = ps; lists = sent net (news process.state) sources lists; counts = counted counts (news process.state) })
          (changed net process is advanced)
          ∙ ap (λ ss. record {
            processes = update advanced net (map (λ (p : ProcessView). p.state) processes);
            lists = sent net (news process.state) ss lists;
            counts = counted counts (news process.state);
          }) feeds
          ∙ ap (λ ms. record {
            processes = update advanced net (map (λ (p : ProcessView). p.state) processes);
            lists = sent net ms (sources_of (nets_of (state_of processes lists counts))) lists;
            counts = counted counts ms;
          }) told

      useful : (same : Bool) → (next_frontier process.state == process.state.known.frontier) ≡ same →
          not (length (news process.state) == 0) ≡ is_useful (state_of processes lists counts) (Advance net)
      useful true e =
          let is_same : next_frontier process.state ≡ process.state.known.frontier = eqb-true _ _ e in
          ap (λ ms. not (length ms == 0)) (no_news process.state is_same)
          ∙ sym (advance_useless (state_of processes lists counts) net process.state at is_same)
      useful false e =
          let apart : next_frontier process.state ≡ process.state.known.frontier → ⊥ = eqb-false _ _ e in
          let ahead = (all.sound.processes net process.state at).ahead in
          ap (λ b. not b) (some_news process.state e)
          ∙ sym (farther_useful net process is (omega (arith, apart, ahead)))

  -- an Advance that has a message to tell is useful
  pub telling_useful : (net : ℕ) (process : ProcessView) → net < length design.circuit → slice_get processes net ≡ Some process →
      0 < length (news process.state) → is_useful (state_of processes lists counts) (Advance net) ≡ true
  telling_useful net process below is some = sym (net_advanced net process below is).useful ∙ ap not (some-eqb (length (news process.state)) some)
    where
      some-eqb : (count : ℕ) → 0 < count → (count == 0) ≡ false
      some-eqb zero h = absurd (omega arith)
      some-eqb (suc count) h = eqb-suc-zero count
