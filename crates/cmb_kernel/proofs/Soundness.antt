-- Every state that a run reaches is sound.
use Rattle.std.proofs.Common.{◌≡◌, ℕ, zero, suc, ◌+◌, ◌<◌, ◌==◌, Bool, true, false, cond, List, [], ◌∷◌, ◌++◌, map, length, replicate, drop, Some, slice_get, slice_index_or, All, refl, ap, sym, subst, ◌∙◌, arith, inl, inr}
use Rattle.std.specs.Option.{option_map, option_map_or}
use Rattle.std.proofs.lemmas.Bool.{eqb-true, eqb-false}
use Rattle.std.proofs.lemmas.List.{length-map, length-replicate}
use Rattle.std.proofs.lemmas.List.Elements.{All-head, All-tail}
use Rattle.std.proofs.lemmas.Option.{slice_get-map, slice_get_within}
use Rattle.logic3.specs.declared.value.Value.{Value}
use Rattle.design.proofs.CallerLemmas.{timed_at, value_solves, source_at, pin_below, PinIs, pin_is, same_pin}
use Rattle.design.specs.Circuit.{Net, Circuit, IsCircuit, pin_count}
use Rattle.design.specs.Equations.{equation_at, value_of}
use Rattle.cmb_channels.specs.declared.message.Message.{Message}
use Rattle.cmb_channels.specs.Lists.{taken}
use Rattle.design.specs.Pins.{sources_of, first_pin, net_of_pin, place_of_pin}
use Rattle.cmb_channels.proofs.CallerLemmas.{map-update, IsUpdated, get_of_update, view_of_update_same, view_of_update_other, view_at, length-sent, sent_at, length-taken, taken_at, taken_elsewhere}
use Rattle.gate_process.specs.Knowledge.{Knowledge, nothing_known, knowledge_of, told, told_all, Tells}
use Rattle.gate_process.specs.Step.{ProcessState, started_process, next_frontier, advanced, news, heard, kept_from, kept, extended}
use Rattle.gate_process.specs.Truth.{Meets, KnowsTruth}
use Rattle.gate_process.proofs.CallerLemmas.{HeardTruth, Tells-append, advanced_knows, get_below, get_of_kept, get_of_map, heard_knows, heard_truth, news_true, told_all_truth}
use Rattle.cmb_events.specs.declared.event.Event.{Event}
use Rattle.cmb_events.specs.declared.event.Event.TheVariants.{Deliver, Advance}
use Rattle.cmb_kernel.specs.State.{State, started, nets_of, frontier_at}
use Rattle.cmb_kernel.specs.Step.{news_at, after_advance, after_deliver, step, steps}
use Rattle.cmb_events.specs.Schedule.{Exists}
use Rattle.cmb_kernel.specs.Sound.{IsSound}

pub meets_at : (circuit : Circuit) → IsCircuit circuit → (number : ℕ) (net : Net) → slice_get circuit number ≡ Some net → Meets (value_of circuit) number net
meets_at circuit ok number net e = record {
  timed = timed_at circuit ok number net e;
  solves = λ tick. value_solves circuit ok number tick ∙ ap (λ place. equation_at place (value_of circuit) tick) e;
}

-- ---- the start

started_nets : (last : ℕ) (circuit : Circuit) → map (λ (process : ProcessState). process.net) (map (started_process last) circuit) ≡ circuit
started_nets last [] = refl
started_nets last (net ∷ nets) = ap (λ ns. net ∷ ns) (started_nets last nets)

nothing_waits : (pins pin : ℕ) → slice_index_or (replicate {A = List Message} pins []) pin [] ≡ []
nothing_waits zero pin = refl
nothing_waits (suc pins) zero = refl
nothing_waits (suc pins) (suc pin) = nothing_waits pins pin

pub started_frontier : (last : ℕ) (circuit : Circuit) (number : ℕ) →
    slice_index_or (map (λ (process : ProcessState). process.known.frontier) (map (started_process last) circuit)) number 0 ≡ 0
started_frontier last [] number = refl
started_frontier last (net ∷ nets) zero = refl
started_frontier last (net ∷ nets) (suc number) = started_frontier last nets number

started_knows : (signals : ℕ → ℕ → Value) (last number : ℕ) (net : Net) → KnowsTruth signals number (started_process last net)
started_knows signals last number net = record {
  pins = length-map net.pins (λ (pin : ℕ). nothing_known);
  floor = omega arith;
  ahead = omega arith;
  asked = λ tick asked a b is. omega arith;
  known = refl;
  heard = λ place source received a b.
      let nothing : received ≡ nothing_known = (get_of_map (λ (pin : ℕ). nothing_known) net.pins place received b).2 in
      subst (λ (r : Knowledge). r ≡ knowledge_of (signals source) (kept_from (started_process last net) place r.frontier) r.frontier) (sym nothing)
      (ap (λ k. knowledge_of (signals source) k 0) (let z : 0 ≡ kept_from (started_process last net) place 0 = omega arith in z));
}

pub started_sound : (circuit : Circuit) (last : ℕ) → IsSound circuit last (started circuit last)
started_sound circuit last = record {
  nets = started_nets last circuit;
  lists = length-replicate (pin_count circuit) [];
  ends = λ number process e.
      let net = get_of_map (started_process last) circuit number process e in ap (λ (p : ProcessState). p.end) net.2;
  processes = λ number process e.
      let net = get_of_map (started_process last) circuit number process e in
      subst (λ (p : ProcessState). KnowsTruth (value_of circuit) number p) (sym net.2) (started_knows (value_of circuit) last number net.0);
  waiting = λ number place source process received a b c.
      let net = get_of_map (started_process last) circuit number process a in
      let c' : slice_get (map (λ (pin : ℕ). nothing_known) (net.0).pins) place ≡ Some received =
      subst (λ (p : ProcessState). slice_get p.received place ≡ Some received) net.2 c in
      let nothing : received ≡ nothing_known = (get_of_map (λ (pin : ℕ). nothing_known) (net.0).pins place received c').2 in
      subst (λ messages. Tells (value_of circuit source) received.frontier (frontier_at (started circuit last) source) messages)
      (sym (nothing_waits (pin_count circuit) (first_pin circuit number + place)))
      (ap (λ (r : Knowledge). r.frontier) nothing ∙ sym (started_frontier last circuit source));
}

-- ---- a step

module _ (circuit : Circuit) (ok : IsCircuit circuit) (last : ℕ) (state : State) (sound : IsSound circuit last state) where
  pub net_at : (number : ℕ) (process : ProcessState) → slice_get state.processes number ≡ Some process → slice_get circuit number ≡ Some process.net
  net_at number process e =
      subst (λ c. slice_get c number ≡ Some process.net) sound.nets
      (slice_get-map (λ (p : ProcessState). p.net) state.processes number ∙ ap (option_map (λ (p : ProcessState). p.net)) e)

  pub meets : (number : ℕ) (process : ProcessState) → slice_get state.processes number ≡ Some process → Meets (value_of circuit) number process.net
  meets number process e = meets_at circuit ok number process.net (net_at number process e)

  -- a pin has heard its source up to the source's frontier, once all that waits there is told
  pub hears_truth : (number place source : ℕ) (process : ProcessState) (received : Knowledge) →
      slice_get state.processes number ≡ Some process → slice_get process.net.pins place ≡ Some source →
      slice_get process.received place ≡ Some received →
      told_all received (slice_index_or state.lists (first_pin circuit number + place) [])
      ≡ knowledge_of (value_of circuit source) (kept_from process place received.frontier) (frontier_at state source)
  hears_truth number place source process received a b c =
      let so_far = (sound.processes number process a).heard place source received b c in
      ap (λ k. told_all k (slice_index_or state.lists (first_pin circuit number + place) [])) so_far
      ∙ told_all_truth (value_of circuit source) (kept_from process place received.frontier)
      received.frontier (frontier_at state source) _ (omega arith) (sound.waiting number place source process received a b c)

  module _ (moving : ℕ) (mover : ProcessState) (at : slice_get state.processes moving ≡ Some mover) where
    told_then : news_at state moving ≡ news mover
    told_then = ap (λ place. option_map_or news place []) at

    -- what waits at a pin tells of its source after the Advance too
    tells_on : (number place source : ℕ) (net : Net) (from : ℕ) → slice_get circuit number ≡ Some net →
        slice_get net.pins place ≡ Some source →
        Tells (value_of circuit source) from (frontier_at state source) (slice_index_or state.lists (first_pin circuit number + place) []) →
        Tells (value_of circuit source) from (frontier_at (after_advance state moving) source)
        (slice_index_or (after_advance state moving).lists (first_pin circuit number + place) [])
    tells_on number place source net from a b tells =
        subst (λ messages. Tells (value_of circuit source) from (frontier_at (after_advance state moving) source) messages)
        (sym (sent_at moving (news_at state moving) (sources_of (nets_of state)) state.lists (first_pin circuit number + place) source feeds below))
        (go (source == moving) refl)
      where
        feeds : slice_get (sources_of (nets_of state)) (first_pin circuit number + place) ≡ Some source
        feeds = subst (λ c. slice_get (sources_of c) (first_pin circuit number + place) ≡ Some source) (sym sound.nets)
            (source_at circuit number place source net a b)

        below : first_pin circuit number + place < length state.lists
        below = let w = pin_below circuit number place source net a b in let l = sound.lists in omega arith

        waits : List Message
        waits = slice_index_or state.lists (first_pin circuit number + place) []

        go : (same : Bool) → (source == moving) ≡ same →
            Tells (value_of circuit source) from (frontier_at (after_advance state moving) source)
            (cond same (waits ++ news_at state moving) waits)
        go true e =
            let is : source ≡ moving = eqb-true _ _ e in
            let new : frontier_at (after_advance state moving) source ≡ next_frontier mover =
            ap (λ n. frontier_at (after_advance state moving) n) is
            ∙ view_of_update_same (λ (p : ProcessState). p.known.frontier) advanced moving state.processes mover at in
            let old : frontier_at state source ≡ mover.known.frontier =
            ap (λ n. frontier_at state n) is ∙ view_at (λ (p : ProcessState). p.known.frontier) state.processes moving mover at in
            let more : Tells (value_of circuit source) (frontier_at state source) (next_frontier mover) (news_at state moving) =
            subst (λ f. Tells (value_of circuit source) f (next_frontier mover) (news_at state moving)) (sym old)
            (subst (λ ms. Tells (value_of circuit source) mover.known.frontier (next_frontier mover) ms) (sym told_then)
            (subst (λ n. Tells (value_of circuit n) mover.known.frontier (next_frontier mover) (news mover)) (sym is)
            (news_true (value_of circuit) moving mover (meets moving mover at) (sound.processes moving mover at)))) in
            subst (λ f. Tells (value_of circuit source) from f (waits ++ news_at state moving)) (sym new)
            (Tells-append (value_of circuit source) from (frontier_at state source) (next_frontier mover) waits (news_at state moving) tells more)
        go false e =
            let old : frontier_at (after_advance state moving) source ≡ frontier_at state source =
            view_of_update_other (λ (p : ProcessState). p.known.frontier) advanced moving state.processes source (eqb-false _ _ e) in
            subst (λ f. Tells (value_of circuit source) from f waits) (sym old) tells

    -- the process of a net after the Advance is an old one or the one that advanced
    pub advance_sound : IsSound circuit last (after_advance state moving)
    advance_sound = record {
      nets = map-update (λ (p : ProcessState). p.net) advanced moving state.processes (λ p. refl) ∙ sound.nets;
      lists = length-sent moving (news_at state moving) (sources_of (nets_of state)) state.lists ∙ sound.lists;
      ends = λ number process e. ends number process (get_of_update advanced moving state.processes number process e);
      processes = λ number process e. knows number process (get_of_update advanced moving state.processes number process e);
      waiting = λ number place source process received a b c.
          waits number place source process received b c (get_of_update advanced moving state.processes number process a);
    }
      where
        ends : (number : ℕ) (process : ProcessState) →
            IsUpdated advanced moving state.processes number process → process.end ≡ last
        ends number process (inl same) =
            ap (λ (p : ProcessState). p.end) (same.1.2) ∙ sound.ends moving (same.1.0) (same.1.1)
        ends number process (inr other) = sound.ends number process other.1

        knows : (number : ℕ) (process : ProcessState) →
            IsUpdated advanced moving state.processes number process → KnowsTruth (value_of circuit) number process
        knows number process (inl same) =
            subst (λ n. KnowsTruth (value_of circuit) n process) (sym same.0)
            (subst (λ p. KnowsTruth (value_of circuit) moving p) (sym same.1.2)
            (advanced_knows (value_of circuit) moving same.1.0 (meets moving same.1.0 same.1.1) (sound.processes moving same.1.0 same.1.1)))
        knows number process (inr other) = sound.processes number process other.1

        waits : (number place source : ℕ) (process : ProcessState) (received : Knowledge) →
            slice_get process.net.pins place ≡ Some source → slice_get process.received place ≡ Some received →
            IsUpdated advanced moving state.processes number process →
            Tells (value_of circuit source) received.frontier (frontier_at (after_advance state moving) source)
            (slice_index_or (after_advance state moving).lists (first_pin circuit number + place) [])
        waits number place source process received b c (inl same) =
            let here : slice_get state.processes number ≡ Some same.1.0 =
            subst (λ n. slice_get state.processes n ≡ Some same.1.0) (sym same.0) same.1.1 in
            let b' : slice_get (same.1.0).net.pins place ≡ Some source =
            subst (λ (p : ProcessState). slice_get p.net.pins place ≡ Some source) same.1.2 b in
            let c' : slice_get (advanced same.1.0).received place ≡ Some received =
            subst (λ (p : ProcessState). slice_get p.received place ≡ Some received) same.1.2 c in
            let old = get_of_kept (extended same.1.0) (same.1.0).received place received c' in
            let frontier : received.frontier ≡ (old.0).frontier = ap (λ (k : Knowledge). k.frontier) old.2 in
            subst (λ f. Tells (value_of circuit source) f (frontier_at (after_advance state moving) source)
            (slice_index_or (after_advance state moving).lists (first_pin circuit number + place) [])) (sym frontier)
            (tells_on number place source (same.1.0).net (old.0).frontier (net_at number same.1.0 here) b'
            (sound.waiting number place source same.1.0 old.0 here b' old.1))
        waits number place source process received b c (inr other) =
            tells_on number place source process.net received.frontier (net_at number process other.1) b
            (sound.waiting number place source process received other.1 b c)

  module _ (pin : ℕ) (message : Message) (messages : List Message) (waiting : slice_index_or state.lists pin [] ≡ message ∷ messages)
      (exists : pin < length state.lists) where
    to : ℕ
    to = net_of_pin (nets_of state) pin

    pin_there : PinIs circuit pin (net_of_pin (nets_of state) pin) (place_of_pin (nets_of state) pin)
    pin_there =
        let count : pin < pin_count (nets_of state) = (let l = sound.lists in let c = ap pin_count sound.nets in omega arith) in
        subst (λ c. PinIs c pin (net_of_pin (nets_of state) pin) (place_of_pin (nets_of state) pin)) sound.nets (pin_is (nets_of state) pin count)

    -- the source of the pin, what it received, and what waits there
    pub pin_tells : (process : ProcessState) → slice_get state.processes (net_of_pin (nets_of state) pin) ≡ Some process →
        (source : ℕ) × (received : Knowledge) × (slice_get process.net.pins (place_of_pin (nets_of state) pin) ≡ Some source)
        × (slice_get process.received (place_of_pin (nets_of state) pin) ≡ Some received)
        × Tells (value_of circuit source) received.frontier (frontier_at state source) (message ∷ messages)
    pin_tells process e =
        let there = pin_there in
        let same : there.net ≡ process.net = (let a = there.at in let b = net_at (net_of_pin (nets_of state) pin) process e in cc) in
        let pins : length process.received ≡ length process.net.pins =
        (sound.processes (net_of_pin (nets_of state) pin) process e).pins in
        let within : place_of_pin (nets_of state) pin < length process.net.pins =
        subst (λ (n : Net). place_of_pin (nets_of state) pin < length n.pins) same there.within in
        let source = get_below process.net.pins (place_of_pin (nets_of state) pin) within in
        let received = get_below process.received (place_of_pin (nets_of state) pin) (omega arith) in
        let told_there = sound.waiting (net_of_pin (nets_of state) pin) (place_of_pin (nets_of state) pin) source.0 process received.0 e source.1 received.1 in (
          source.0,
          received.0,
          source.1,
          received.1,
          subst (λ ms. Tells (value_of circuit source.0) (received.0).frontier (frontier_at state source.0) ms)
              (ap (λ n. slice_index_or state.lists n []) there.number_is ∙ waiting) told_there,
        )

    waits_here : slice_index_or (taken pin state.lists) pin [] ≡ messages
    waits_here = taken_at pin state.lists exists ∙ ap (λ ms. drop 1 ms) waiting

    same_frontiers : (source : ℕ) → frontier_at (after_deliver state pin (message ∷ messages)) source ≡ frontier_at state source
    same_frontiers source =
        ap (λ ns. slice_index_or ns source 0)
        (map-update (λ (p : ProcessState). p.known.frontier) (heard (place_of_pin (nets_of state) pin) message)
        (net_of_pin (nets_of state) pin) state.processes (λ p. refl))

    -- what waits at another pin tells of its source as before
    tells_still : (number place source : ℕ) (process : ProcessState) (received : Knowledge) →
        slice_get state.processes number ≡ Some process → slice_get process.net.pins place ≡ Some source →
        slice_get process.received place ≡ Some received →
        (number ≡ net_of_pin (nets_of state) pin → place ≡ place_of_pin (nets_of state) pin → ⊥) →
        Tells (value_of circuit source) received.frontier (frontier_at (after_deliver state pin (message ∷ messages)) source)
        (slice_index_or (taken pin state.lists) (first_pin circuit number + place) [])
    tells_still number place source process received a b c apart =
        let there = pin_there in
        let other : first_pin circuit number + place ≡ pin → ⊥ = (λ e.
        let both = same_pin circuit number (net_of_pin (nets_of state) pin) place (place_of_pin (nets_of state) pin) process.net there.net
        (net_at number process a) there.at (slice_get_within process.net.pins place source b) there.within (e ∙ sym there.number_is) in
        apart both.0 both.1) in
        subst (λ ms. Tells (value_of circuit source) received.frontier (frontier_at (after_deliver state pin (message ∷ messages)) source) ms)
        (sym (taken_elsewhere pin state.lists (first_pin circuit number + place) other))
        (subst (λ f. Tells (value_of circuit source) received.frontier f (slice_index_or state.lists (first_pin circuit number + place) []))
        (sym (same_frontiers source)) (sound.waiting number place source process received a b c))

    pub deliver_sound : IsSound circuit last (after_deliver state pin (message ∷ messages))
    deliver_sound = record {
      nets = map-update (λ (p : ProcessState). p.net) hears to state.processes (λ p. refl) ∙ sound.nets;
      lists = length-taken pin state.lists ∙ sound.lists;
      ends = λ number process e. ends number process (get_of_update hears to state.processes number process e);
      processes = λ number process e. knows number process (get_of_update hears to state.processes number process e);
      waiting = λ number place source process received a b c.
          waits number place source process received b c (get_of_update hears to state.processes number process a);
    }
      where
        to : ℕ
        to = net_of_pin (nets_of state) pin

        hears : ProcessState → ProcessState
        hears = heard (place_of_pin (nets_of state) pin) message

        ends : (number : ℕ) (process : ProcessState) → IsUpdated hears to state.processes number process → process.end ≡ last
        ends number process (inl same) = ap (λ (p : ProcessState). p.end) (same.1.2) ∙ sound.ends to (same.1.0) (same.1.1)
        ends number process (inr other) = sound.ends number process other.1

        knows : (number : ℕ) (process : ProcessState) → IsUpdated hears to state.processes number process →
            KnowsTruth (value_of circuit) number process
        knows number process (inl same) =
            let tells = pin_tells same.1.0 same.1.1 in
            subst (λ n. KnowsTruth (value_of circuit) n process) (sym same.0)
            (subst (λ p. KnowsTruth (value_of circuit) to p) (sym same.1.2)
            (heard_knows (value_of circuit) to same.1.0 (place_of_pin (nets_of state) pin) tells.0 (frontier_at state tells.0) tells.1 message messages
            (meets to same.1.0 same.1.1) (sound.processes to same.1.0 same.1.1) tells.2 tells.3 tells.4))
        knows number process (inr other) = sound.processes number process other.1

        -- the pin itself, or another one of its net
        waits_there : (number place source : ℕ) (process : ProcessState) (received : Knowledge) → number ≡ to →
            slice_get state.processes number ≡ Some process → slice_get process.net.pins place ≡ Some source →
            IsUpdated (λ (known : Knowledge). kept process (place_of_pin (nets_of state) pin) (told known message)) (place_of_pin (nets_of state) pin)
            process.received place received →
            Tells (value_of circuit source) received.frontier (frontier_at (after_deliver state pin (message ∷ messages)) source)
            (slice_index_or (taken pin state.lists) (first_pin circuit number + place) [])
        waits_there number place source process received number_is a b (inl same) =
            let there = pin_there in
            let a' : slice_get state.processes to ≡ Some process = subst (λ n. slice_get state.processes n ≡ Some process) number_is a in
            let tells = pin_tells process a' in
            let old : same.1.0 ≡ tells.1 = (let x = same.1.1 in let y = tells.3 in cc) in
            let from : source ≡ tells.0 = (let p = same.0 in let q = ap (λ n. slice_get process.net.pins n) p in let y = tells.2 in cc) in
            let frontier : received.frontier ≡ (told tells.1 message).frontier =
            ap (λ (k : Knowledge). k.frontier) same.1.2 ∙ ap (λ (k : Knowledge). (told k message).frontier) old in
            let pin_is : first_pin circuit number + place ≡ pin =
            ap (λ n. first_pin circuit n + place) number_is ∙ ap (λ n. first_pin circuit to + n) same.0 ∙ there.number_is in
            let so_far = (sound.processes to process a').heard (place_of_pin (nets_of state) pin) tells.0 tells.1 tells.2 tells.3 in
            let truth : HeardTruth (value_of circuit tells.0) process (place_of_pin (nets_of state) pin) (frontier_at state tells.0) tells.1 (told tells.1 message) messages =
            heard_truth (value_of circuit tells.0) process (place_of_pin (nets_of state) pin) (frontier_at state tells.0) tells.1 message messages so_far tells.4 in
            subst (λ ms. Tells (value_of circuit source) received.frontier (frontier_at (after_deliver state pin (message ∷ messages)) source) ms)
            (sym (ap (λ n. slice_index_or (taken pin state.lists) n []) pin_is ∙ waits_here))
            (subst (λ f. Tells (value_of circuit source) received.frontier f messages) (sym (same_frontiers source))
            (subst (λ f. Tells (value_of circuit source) f (frontier_at state source) messages) (sym frontier)
            (subst (λ s. Tells (value_of circuit s) (told tells.1 message).frontier (frontier_at state s) messages) (sym from) truth.rest_tells)))
        waits_there number place source process received number_is a b (inr other) =
            tells_still number place source process received a b other.1 (λ n p. other.0 p)

        waits : (number place source : ℕ) (process : ProcessState) (received : Knowledge) →
            slice_get process.net.pins place ≡ Some source → slice_get process.received place ≡ Some received →
            IsUpdated hears to state.processes number process →
            Tells (value_of circuit source) received.frontier (frontier_at (after_deliver state pin (message ∷ messages)) source)
            (slice_index_or (taken pin state.lists) (first_pin circuit number + place) [])
        waits number place source process received b c (inl same) =
            let here : slice_get state.processes number ≡ Some same.1.0 =
            subst (λ n. slice_get state.processes n ≡ Some same.1.0) (sym same.0) same.1.1 in
            let b' : slice_get (same.1.0).net.pins place ≡ Some source =
            subst (λ (p : ProcessState). slice_get p.net.pins place ≡ Some source) same.1.2 b in
            let c' : slice_get (hears same.1.0).received place ≡ Some received =
            subst (λ (p : ProcessState). slice_get p.received place ≡ Some received) same.1.2 c in
            waits_there number place source same.1.0 received same.0 here b'
            (get_of_update (λ (known : Knowledge). kept same.1.0 (place_of_pin (nets_of state) pin) (told known message))
            (place_of_pin (nets_of state) pin) (same.1.0).received place received c')
        waits number place source process received b c (inr other) =
            tells_still number place source process received other.1 b c (λ n p. other.0 n)

pub step_sound : (circuit : Circuit) → IsCircuit circuit → (last : ℕ) (state : State) (event : Event) → IsSound circuit last state →
    Exists circuit event → IsSound circuit last (step state event)
step_sound circuit ok last state (Advance net) sound exists =
    let nets : length state.processes ≡ length circuit =
    sym (length-map state.processes (λ (p : ProcessState). p.net)) ∙ ap length sound.nets in
    let mover = get_below state.processes net (omega arith) in
    advance_sound circuit ok last state sound net mover.0 mover.1
step_sound circuit ok last state (Deliver pin) sound exists = go (slice_index_or state.lists pin []) refl
  where
    go : (waiting : List Message) → slice_index_or state.lists pin [] ≡ waiting → IsSound circuit last (after_deliver state pin waiting)
    go [] e = record { nets = sound.nets; lists = sound.lists; ends = sound.ends; processes = sound.processes; waiting = sound.waiting }
    go (message ∷ messages) e =
        deliver_sound circuit ok last state sound pin message messages e (let l = sound.lists in omega arith)

pub steps_sound : (circuit : Circuit) → IsCircuit circuit → (last : ℕ) (state : State) (events : List Event) → IsSound circuit last state →
    All (Exists circuit) events → IsSound circuit last (steps state events)
steps_sound circuit ok last state [] sound exist = sound
steps_sound circuit ok last state (event ∷ events) sound exist =
    steps_sound circuit ok last (step state event) events
    (step_sound circuit ok last state event sound (All-head (Exists circuit) event events exist))
    (All-tail (Exists circuit) event events exist)
