-- Rounds one after another, with their lines, until a run is complete.
use Rattle.std.proofs.Common.{◌≡◌, ℕ, zero, suc, ◌+◌, ◌-◌, ◌*◌, ◌/◌, ◌%◌, ◌<◌, ◌≤◌, min, true, false, cond, List, [], ◌∷◌, ◌++◌, Option, slice_index_or, refl, ap, sym, subst, ◌∙◌, arith, append_assoc, append-nil, ◌⊎◌, inl, inr}
use Rattle.std.proofs.lemmas.Bool.{cases_lt}
use Rattle.std.proofs.Math.Nat.{mul_comm}
use Rattle.design.specs.Circuit.{Circuit, IsCircuit}
use Rattle.cmb_channels.specs.declared.message.Message.{Message}
use Rattle.cmb_events.specs.declared.event.Event.{Event}
use Rattle.cmb_events.specs.declared.event.Event.TheVariants.{Deliver, Advance}
use Rattle.cmb_kernel.specs.State.{State, KernelView, IsComplete, is_complete, least_delay, least_frontier, most_rounds}
use Rattle.cmb_kernel.specs.Step.{one_more, step, steps, after_deliver, with_round, round_events, round_of, rounds, completed_within}
use Rattle.cmb_kernel.specs.Sound.{IsSound}
use Rattle.cmb_kernel.proofs.CallerLemmas.{falls, rises_by_delay, is_complete-from}
use Rattle.texts.specs.Written.{AppendsPrefix, GoesOut}
use Rattle.texts.proofs.CallerLemmas.{GoesOut-then, GoesOut-fault}
use Rattle.event_trace.specs.declared.shown_events.ShownEvents.{ShownEvents}
use Rattle.event_trace.specs.Lines.{Line, begins}
use Rattle.event_trace.specs.ShownLines.{shown_text}
use Rattle.event_trace.specs.Trace.{line_of, lines_of, round_lines, lines_within}
use Rattle.event_trace.proofs.GoingOut.{GoesOut-none}
use Rattle.event_trace.proofs.ShownTexts.{shown_text-append}

-- ---- the number of rounds plays no part in events

-- a state in which so many rounds were counted
abbrev pub with_rounds : ℕ → State → State
with_rounds number state = record state { counts = record state.counts { rounds = number } }

after_deliver_apart : (number : ℕ) (state : State) (pin : ℕ) (waiting : List Message) →
    after_deliver (with_rounds number state) pin waiting ≡ with_rounds number (after_deliver state pin waiting)
after_deliver_apart number state pin [] = refl
after_deliver_apart number state pin (message ∷ messages) = refl

step_apart : (number : ℕ) (state : State) (event : Event) → step (with_rounds number state) event ≡ with_rounds number (step state event)
step_apart number state (Deliver pin) = after_deliver_apart number state pin (slice_index_or state.lists pin [])
step_apart number state (Advance net) = refl

steps_apart : (number : ℕ) (state : State) (events : List Event) → steps (with_rounds number state) events ≡ with_rounds number (steps state events)
steps_apart number state [] = refl
steps_apart number state (event ∷ events) = ap (λ s. steps s events) (step_apart number state event) ∙ steps_apart number (step state event) events

line_apart : (number : ℕ) (state : State) (event : Event) → line_of (with_rounds number state) event ≡ line_of state event
line_apart number state (Deliver pin) = refl
line_apart number state (Advance net) = refl

lines_apart : (number : ℕ) (state : State) (events : List Event) → lines_of (with_rounds number state) events ≡ lines_of state events
lines_apart number state [] = refl
lines_apart number state (event ∷ events) =
    let first = line_apart number state event in
    let rest = ap (λ s. lines_of s events) (step_apart number state event) ∙ lines_apart number (step state event) events in
    λ i. first i ∷ rest i

-- a round more
round_apart : (number : ℕ) (state : State) →
    round_of (with_rounds number state) ≡ with_rounds (one_more number) (steps state (round_events state))
round_apart number state = ap with_round (steps_apart number state (round_events state))

-- ---- enough rounds

-- so many rounds are enough
pub most_enough : (circuit : Circuit) → IsCircuit circuit → (last : ℕ) → last ≤ most_rounds last circuit * least_delay last circuit
most_enough circuit ok last = go (cases_lt 0 last)
  where
    covers : (n d : ℕ) → 0 < d → n ≤ (n + (d - 1)) / d * d
    covers n d pos =
        let whole : d * ((n + (d - 1)) / d) + (n + (d - 1)) % d ≡ n + (d - 1) = omega arith in
        let part : (n + (d - 1)) % d < d = omega arith in
        omega (arith, whole, part, mul_comm d ((n + (d - 1)) / d))

    some : (n d : ℕ) → 0 < min n (0 + d) → 0 < d
    some n d h = omega arith

    go : (0 < last) ⊎ (last ≤ 0) → last ≤ most_rounds last circuit * least_delay last circuit
    go (inl later) =
        covers last (least_delay last circuit)
        (some last (least_delay last circuit)
        (rises_by_delay circuit last 0 (min last (0 + least_delay last circuit)) ok (omega arith) later))
    go (inr none) = omega arith

-- ---- rounds with their lines

-- what went out, what waits and the lines of the rounds to come are the whole; and these rounds lead to the end
pub record RoundsLeft (shown : ShownEvents) (circuit : Circuit) (ending : State) (old now : Option (List ℕ)) (whole : List ℕ) (number : ℕ) (state : State) (text : List ℕ) : Type 0 where
  pub left : ℕ
  pub complete : IsComplete (rounds left (with_rounds number state))
  pub ends : completed_within left (with_rounds number state) ≡ ending
  pub goes : GoesOut old now whole (text ++ shown_text shown circuit (lines_within left (with_rounds number state)))

regroup : (shown : ShownEvents) (circuit : Circuit) (text : List ℕ) (xs ys : List Line) → text ++ shown_text shown circuit (xs ++ ys) ≡ (text ++ shown_text shown circuit xs) ++ shown_text shown circuit ys
regroup shown circuit text xs ys =
    ap (λ (lines : List ℕ). text ++ lines) (shown_text-append shown circuit xs ys)
    ∙ sym (append_assoc text (shown_text shown circuit xs) (shown_text shown circuit ys))

module _ (shown : ShownEvents) (circuit : Circuit) (ending : State) (old now : Option (List ℕ)) (whole : List ℕ) (number : ℕ) (state : State) (text : List ℕ)
    (so_far : RoundsLeft shown circuit ending old now whole number state text) where
  -- at the end none is left
  pub none_left : is_complete state ≡ true → (with_rounds number state ≡ ending) × GoesOut old now whole text
  none_left complete = go so_far.left so_far.ends so_far.goes
    where
      go : (left : ℕ) → completed_within left (with_rounds number state) ≡ ending →
          GoesOut old now whole (text ++ shown_text shown circuit (lines_within left (with_rounds number state))) →
          (with_rounds number state ≡ ending) × GoesOut old now whole text
      go zero ends goes = (ends, subst (GoesOut old now whole) (append-nil text) goes)
      go (suc left) ends goes = (
        sym (ap (λ b. cond b (with_rounds number state) (completed_within left (round_of (with_rounds number state)))) complete) ∙ ends,
        subst (GoesOut old now whole)
            (ap (λ b. text ++ shown_text shown circuit (cond b [] (round_lines (with_rounds number state) ++ lines_within left (round_of (with_rounds number state))))) complete
            ∙ append-nil text) goes,
      )

  module _ (incomplete : is_complete state ≡ false) where
    -- what is left after the next round
    record OneLess : Type 0 where
      pub left : ℕ
      pub complete : IsComplete (rounds left (with_rounds (one_more number) (steps state (round_events state))))
      pub ends : completed_within left (with_rounds (one_more number) (steps state (round_events state))) ≡ ending
      pub goes : GoesOut old now whole
          ((text ++ shown_text shown circuit (begins (one_more number) ∷ lines_of state (round_events state)))
          ++ shown_text shown circuit (lines_within left (with_rounds (one_more number) (steps state (round_events state)))))

    one_less : OneLess
    one_less = go so_far.left so_far.complete so_far.ends so_far.goes
      where
        go : (left : ℕ) → IsComplete (rounds left (with_rounds number state)) → completed_within left (with_rounds number state) ≡ ending →
            GoesOut old now whole (text ++ shown_text shown circuit (lines_within left (with_rounds number state))) → OneLess
        go zero complete ends goes = absurd (let done : is_complete state ≡ true = is_complete-from (with_rounds number state) complete in cc)
        go (suc left) complete ends goes = record {
          left = left;
          complete = subst (λ (s : State). IsComplete (rounds left s)) (round_apart number state) complete;
          ends = ap (completed_within left) (sym (round_apart number state))
              ∙ sym (ap (λ b. cond b (with_rounds number state) (completed_within left (round_of (with_rounds number state)))) incomplete) ∙ ends;
          goes = subst (GoesOut old now whole)
              (ap (λ b. text ++ shown_text shown circuit (cond b [] (round_lines (with_rounds number state) ++ lines_within left (round_of (with_rounds number state))))) incomplete
              ∙ regroup shown circuit text (round_lines (with_rounds number state)) (lines_within left (round_of (with_rounds number state)))
              ∙ (λ i. (text ++ shown_text shown circuit (begins (one_more number) ∷ lines_apart number state (round_events state) i))
              ++ shown_text shown circuit (lines_within left (round_apart number state i)))) goes;
        }

    module _ (one : ℕ) (counts : one ≡ one_more number) (new : Option (List ℕ)) where
      -- after a round one less is left
      pub one_more_round : (next : State) (waiting : List ℕ) → next ≡ steps state (round_events state) →
          GoesOut now new (text ++ shown_text shown circuit (begins one ∷ lines_of state (round_events state))) waiting →
          RoundsLeft shown circuit ending old new whole one next waiting
      one_more_round next waiting is out =
          let less = one_less in
          let after : with_rounds one next ≡ with_rounds (one_more number) (steps state (round_events state)) = λ i. with_rounds (counts i) (is i) in
          let gone = subst (λ n. GoesOut now new (text ++ shown_text shown circuit (begins n ∷ lines_of state (round_events state))) waiting) counts out in
          record {
            left = less.left;
            complete = subst (λ (s : State). IsComplete (rounds less.left s)) (sym after) less.complete;
            ends = ap (completed_within less.left) after ∙ less.ends;
            goes = subst (λ (s : State). GoesOut old new whole (waiting ++ shown_text shown circuit (lines_within less.left s))) (sym after)
                (GoesOut-then old now new whole (text ++ shown_text shown circuit (begins (one_more number) ∷ lines_of state (round_events state))) waiting
                (shown_text shown circuit (lines_within less.left (with_rounds (one_more number) (steps state (round_events state))))) less.goes gone);
          }

      -- a round that is broken off
      pub broken_round : AppendsPrefix now new (text ++ shown_text shown circuit (begins one ∷ lines_of state (round_events state))) → AppendsPrefix old new whole
      broken_round fault =
          let less = one_less in
          GoesOut-fault old now new whole (text ++ shown_text shown circuit (begins (one_more number) ∷ lines_of state (round_events state)))
          (shown_text shown circuit (lines_within less.left (with_rounds (one_more number) (steps state (round_events state))))) less.goes
          (subst (λ n. AppendsPrefix now new (text ++ shown_text shown circuit (begins n ∷ lines_of state (round_events state)))) counts fault)

-- before the first round all are left
pub all_left : (shown : ShownEvents) (circuit : Circuit) (most number : ℕ) (state : State) (out : Option (List ℕ)) (text : List ℕ) → number ≡ state.counts.rounds →
    IsComplete (rounds most state) →
    RoundsLeft shown circuit (completed_within most state) out out (text ++ shown_text shown circuit (lines_within most state)) number state text
all_left shown circuit most number state out text is complete =
    subst (λ n. RoundsLeft shown circuit (completed_within most state) out out (text ++ shown_text shown circuit (lines_within most state)) n state text) (sym is)
    (record { left = most; complete = complete; ends = refl; goes = GoesOut-none out (text ++ shown_text shown circuit (lines_within most state)) })

-- ---- rounds come to an end

-- what is left to the end is less after a round
pub less_left : (start kernel new : KernelView) → IsCircuit start.circuit → kernel ≡ record start { state = kernel.state } →
    new ≡ record kernel { state = steps kernel.state (round_events kernel.state) } → IsSound kernel.circuit kernel.end kernel.state →
    is_complete kernel.state ≡ false →
    min start.end (least_frontier start.end kernel.state + least_delay start.end start.circuit) ≤ least_frontier start.end (round_of kernel.state) →
    new.end - least_frontier new.end new.state < kernel.end - least_frontier kernel.end kernel.state
less_left start kernel new ok run goes sound incomplete raised =
    let here : IsSound start.circuit start.end kernel.state = subst (λ (k : KernelView). IsSound k.circuit k.end kernel.state) run sound in
    let fell : start.end - least_frontier start.end (round_of kernel.state) < start.end - least_frontier start.end kernel.state =
    falls start.circuit ok start.end kernel.state (least_frontier start.end (round_of kernel.state)) here incomplete raised in
    let after : new.end - least_frontier new.end new.state ≡ kernel.end - least_frontier kernel.end (round_of kernel.state) =
    ap (λ (k : KernelView). k.end - least_frontier k.end k.state) goes in
    let over : kernel.end - least_frontier kernel.end (round_of kernel.state) ≡ start.end - least_frontier start.end (round_of kernel.state) =
    ap (λ (k : KernelView). k.end - least_frontier k.end (round_of kernel.state)) run in
    let before : kernel.end - least_frontier kernel.end kernel.state ≡ start.end - least_frontier start.end kernel.state =
    ap (λ (k : KernelView). k.end - least_frontier k.end kernel.state) run in
    omega (arith, fell, after, over, before)

-- events leave a kernel's circuit and end
pub run_on : (start kernel new : KernelView) → kernel ≡ record start { state = kernel.state } →
    new ≡ record kernel { state = steps kernel.state (round_events kernel.state) } → new ≡ record start { state = new.state }
run_on start kernel new run goes =
    goes ∙ ap (λ (k : KernelView). record k { state = steps kernel.state (round_events kernel.state) }) run
    ∙ ap (λ (k : KernelView). record start { state = k.state }) (sym goes)
