-- A net at rest: its pins know enough to reach a tick, and an advance would change nothing.
use Rattle.std.proofs.Common.{◌≡◌, ℕ, zero, suc, ◌+◌, ◌<◌, ◌≤◌, ◌==◌, not, List, [], map, length, Some, slice_get, slice_set, refl, ap, sym, subst, ◌∙◌, arith}
use Rattle.std.specs.List.{range_with_len}
use Rattle.std.specs.Option.{option_map_or}
use Rattle.std.proofs.lemmas.List.{set-get_or}
use Rattle.std.proofs.lemmas.Option.{get_or_from_slice_get}
use Rattle.design.specs.Circuit.{Net}
use Rattle.design.specs.Design.{DesignView}
use Rattle.design.specs.Pins.{first_pin}
use Rattle.cmb_channels.specs.declared.message.Message.{Message}
use Rattle.cmb_channels.specs.Lists.{sent}
use Rattle.cmb_channels.proofs.CallerLemmas.{sent-none}
use Rattle.gate_process.specs.Quiet.{IsQuiet, KnowsTo}
use Rattle.gate_process.specs.Step.{ProcessState, ProcessView, running, advanced, news}
use Rattle.gate_process.proofs.CallerLemmas.{get_below, no_news}
use Rattle.cmb_events.specs.declared.event.Event.TheVariants.{Advance}
use Rattle.cmb_kernel.specs.declared.counts.Counts.{Counts}
use Rattle.cmb_kernel.specs.State.{State, nets_of, received_at}
use Rattle.cmb_kernel.specs.Step.{counted, step}
use Rattle.cmb_kernel.specs.Sweeps.{caught_up, pin_numbers, all_caught_up, swept_net}
use Rattle.cmb_kernel.specs.Running.{state_of, IsRunning}
use Rattle.cmb_kernel.proofs.Applied.{IsApplied, net_advanced}
use Rattle.cmb_kernel.proofs.PinPlaces.{received_there}
use Rattle.cmb_kernel.proofs.Running.{circuit_ok, runs_at}
use Rattle.cmb_kernel.proofs.Soundness.{net_at}
use Rattle.cmb_kernel.proofs.SweepLoops.{knows_enough, one_more_pin}

-- pins that know enough take nothing
all_know : (tick : ℕ) (state : State) (first count : ℕ) → ((place : ℕ) → place < count → tick ≤ received_at state (first + place)) →
    all_caught_up tick state (range_with_len first count) ≡ state
all_know tick state first zero enough = refl
all_know tick state first (suc count) enough =
    let more : suc count ≡ count + 1 = omega arith in
    ap (λ n. all_caught_up tick state (range_with_len first n)) more
    ∙ sym (one_more_pin tick state first count)
    ∙ ap (λ s. caught_up tick s (first + count)) (all_know tick state first count (λ place below. enough place (omega arith)))
    ∙ knows_enough tick state (first + count) (enough count (omega arith))

module _ {design : DesignView} {end : ℕ} {processes : List ProcessView} {sources : List ℕ} {nets : ℕ} {lists : List (List Message)}
    {counts : Counts} (all : IsRunning design end processes sources nets (state_of processes lists counts))
    (net : ℕ) (process : ProcessView) (below : net < length design.circuit) (is : slice_get processes net ≡ Some process) where
  here : slice_get (map (λ (p : ProcessView). p.state) processes) net ≡ Some process.state
  here = (runs_at all net process is).at

  -- its pins take nothing
  module _ (tick : ℕ) (knows : KnowsTo tick process.state) where
    enough : (place : ℕ) → place < length process.state.received → tick ≤ received_at (state_of processes lists counts) (first_pin design.circuit net + place)
    enough place inside =
        let received = get_below process.state.received place inside in
        let known = received_there design.circuit (circuit_ok all) end (state_of processes lists counts) all.sound net place process.state received.0 here received.1 in
        let far = knows place received.0 inside in
        let is = get_or_from_slice_get process.state.received place received.0 received.0 received.1 in
        omega (arith, known, far, ap (λ known. known.frontier) is)

    pub none_taken : all_caught_up tick (state_of processes lists counts) (pin_numbers (nets_of (state_of processes lists counts)) net)
        ≡ state_of processes lists counts
    none_taken =
        let own = net_at design.circuit (circuit_ok all) end (state_of processes lists counts) all.sound net process.state here in
        let pins = (all.sound.processes net process.state here).pins in
        ap (λ circuit. all_caught_up tick (state_of processes lists counts) (pin_numbers circuit net)) all.sound.nets
        ∙ ap (λ found. all_caught_up tick (state_of processes lists counts)
        (range_with_len (first_pin design.circuit net) (option_map_or (λ (at : Net). length at.pins) found 0))) own
        ∙ all_know tick (state_of processes lists counts) (first_pin design.circuit net) (length process.state.net.pins)
        (λ place inside. enough place (omega (arith, inside, pins)))

  -- it sends nothing, and stays as it is
  module _ (quiet : IsQuiet process.state) where
    same : slice_set processes net (running (advanced process.state)) ≡ processes
    same =
        let runs = (runs_at all net process is).runs in
        let stays : running (advanced process.state) ≡ process = λ i. record { failed = sym runs i; state = quiet i } in
        ap (slice_set processes net) (stays ∙ sym (get_or_from_slice_get processes net process process is))
        ∙ set-get_or processes net process

    silent : news process.state ≡ []
    silent = no_news process.state (ap (λ (p : ProcessState). p.known.frontier) quiet)

    pub rested : IsApplied design end processes sources nets lists (counted counts []) (state_of processes lists counts) (Advance net)
        (not (length (news process.state) == 0))
    rested =
        subst (λ ps. IsApplied design end ps sources nets lists (counted counts []) (state_of processes lists counts) (Advance net)
        (not (length (news process.state) == 0))) same
        (subst (λ ls. IsApplied design end (slice_set processes net (running (advanced process.state))) sources nets ls (counted counts [])
        (state_of processes lists counts) (Advance net) (not (length (news process.state) == 0))) (sent-none net sources lists)
        (subst (λ ms. IsApplied design end (slice_set processes net (running (advanced process.state))) sources nets (sent net ms sources lists)
        (counted counts ms) (state_of processes lists counts) (Advance net) (not (length (news process.state) == 0))) silent
        (net_advanced all net process below is)))

    -- only the event is counted
    pub only_counted : (tick : ℕ) → KnowsTo tick process.state →
        state_of processes lists (counted counts []) ≡ swept_net tick (state_of processes lists counts) net
    only_counted tick knows = rested.state ∙ ap (λ s. step s (Advance net)) (sym (none_taken tick knows))
