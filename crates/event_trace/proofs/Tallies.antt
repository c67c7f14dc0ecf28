-- What a reader counts in lines is what a run counts.
use Rattle.std.proofs.Common.{◌≡◌, ℕ, zero, suc, ◌+◌, Bool, true, false, cond, List, [], ◌∷◌, ◌++◌, flat_map, count_by, slice_index_or, refl, ap, sym, ◌∙◌, arith, append-nil}
use Rattle.std.proofs.lemmas.Grind.{flat_map-append}
use Rattle.std.proofs.lemmas.List.Sums.{sum_by-cons, sum_by-append}
use Rattle.design.specs.Circuit.{Circuit}
use Rattle.cmb_channels.specs.declared.message.Message.{Message}
use Rattle.cmb_channels.specs.Kinds.{is_change, is_null}
use Rattle.cmb_events.specs.declared.event.Event.{Event}
use Rattle.cmb_events.specs.declared.event.Event.TheVariants.{Deliver, Advance}
use Rattle.cmb_kernel.specs.declared.counts.Counts.{Counts}
use Rattle.cmb_kernel.specs.State.{State, started, is_complete, most_rounds}
use Rattle.cmb_kernel.specs.Step.{one_more, counted, news_at, after_deliver, step, steps, round_events, round_of, completed_within}
use Rattle.event_trace.specs.Lines.{Line, begins, ends}
use Rattle.event_trace.specs.Counted.{is_event, is_beginning, told_in, held, changes_told, nulls_told}
use Rattle.event_trace.specs.Trace.{line_of, lines_of, round_lines, lines_within, state_at_end, trace_lines}

count_by-cons : {A : Type 0} (test : A → Bool) (x : A) (xs : List A) → count_by test (x ∷ xs) ≡ cond (test x) 1 0 + count_by test xs
count_by-cons test x xs = sum_by-cons (λ y. cond (test y) 1 0) x xs

count_by-append : {A : Type 0} (test : A → Bool) (xs ys : List A) → count_by test (xs ++ ys) ≡ count_by test xs + count_by test ys
count_by-append test xs ys = sum_by-append (λ y. cond (test y) 1 0) xs ys

told-append : (test : Message → Bool) (xs ys : List Line) →
    count_by test (flat_map told_in (xs ++ ys)) ≡ count_by test (flat_map told_in xs) + count_by test (flat_map told_in ys)
told-append test xs ys =
    ap (count_by test) (flat_map-append told_in xs ys) ∙ count_by-append test (flat_map told_in xs) (flat_map told_in ys)

-- some lines count what happened between two counts
pub record Tallied (before after : Counts) (lines : List Line) : Type 0 where
  pub events : (so_far : ℕ) → before.events ≡ held so_far → after.events ≡ held (so_far + count_by is_event lines)
  pub changes : after.changes ≡ before.changes + changes_told lines
  pub nulls : after.nulls ≡ before.nulls + nulls_told lines
  pub rounds : (so_far : ℕ) → before.rounds ≡ held so_far → after.rounds ≡ held (so_far + count_by is_beginning lines)

counted_none : (counts : Counts) → Tallied counts counts []
counted_none counts = record {
  events = λ so_far is. omega arith;
  changes = omega arith;
  nulls = omega arith;
  rounds = λ so_far is. omega arith;
}

counted_append : (before mid after : Counts) (xs ys : List Line) → Tallied before mid xs → Tallied mid after ys → Tallied before after (xs ++ ys)
counted_append before mid after xs ys first second = record {
  events = λ so_far is.
      let all = count_by-append is_event xs ys in
      let there = second.events (so_far + count_by is_event xs) (first.events so_far is) in
      omega (arith, all, there);
  changes =
      let all = told-append is_change xs ys in
      let one = first.changes in
      let other = second.changes in
      omega (arith, all, one, other);
  nulls =
      let all = told-append is_null xs ys in
      let one = first.nulls in
      let other = second.nulls in
      omega (arith, all, one, other);
  rounds = λ so_far is.
      let all = count_by-append is_beginning xs ys in
      let there = second.rounds (so_far + count_by is_beginning xs) (first.rounds so_far is) in
      omega (arith, all, there);
}

-- an event is counted once, and what it told
counted_event : (counts : Counts) (messages : List Message) (line : Line) → is_event line ≡ true → is_beginning line ≡ false → told_in line ≡ messages →
    Tallied counts (counted counts messages) (line ∷ [])
counted_event counts messages line event beginning told = record {
  events = λ so_far is.
      let one : count_by is_event (line ∷ []) ≡ 1 + 0 = count_by-cons is_event line [] ∙ ap (λ b. cond b 1 0 + 0) event in
      omega (arith, one, is);
  changes = ap (λ ms. counts.changes + count_by is_change ms) (alone line messages told);
  nulls = ap (λ ms. counts.nulls + count_by is_null ms) (alone line messages told);
  rounds = λ so_far is.
      let none : count_by is_beginning (line ∷ []) ≡ 0 + 0 = count_by-cons is_beginning line [] ∙ ap (λ b. cond b 1 0 + 0) beginning in
      omega (arith, none, is);
}
  where
    alone : (line : Line) (messages : List Message) → told_in line ≡ messages → messages ≡ flat_map told_in (line ∷ [])
    alone line messages told = sym (append-nil (told_in line) ∙ told)

counted_step : (state : State) (event : Event) → Tallied state.counts (step state event).counts (line_of state event ∷ [])
counted_step state (Advance net) = counted_event state.counts (news_at state net) (line_of state (Advance net)) refl refl refl
counted_step state (Deliver pin) = go (slice_index_or state.lists pin [])
  where
    go : (waiting : List Message) → Tallied state.counts (after_deliver state pin waiting).counts (line_of state (Deliver pin) ∷ [])
    go [] = counted_event state.counts [] (line_of state (Deliver pin)) refl refl refl
    go (message ∷ messages) = counted_event state.counts [] (line_of state (Deliver pin)) refl refl refl

counted_steps : (state : State) (events : List Event) → Tallied state.counts (steps state events).counts (lines_of state events)
counted_steps state [] = counted_none state.counts
counted_steps state (event ∷ events) =
    counted_append state.counts (step state event).counts (steps (step state event) events).counts (line_of state event ∷ []) (lines_of (step state event) events)
    (counted_step state event) (counted_steps (step state event) events)

-- a round is counted once
counted_round : (state : State) → Tallied state.counts (round_of state).counts (round_lines state)
counted_round state = go (counted_steps state (round_events state))
  where
    go : Tallied state.counts (steps state (round_events state)).counts (lines_of state (round_events state)) →
        Tallied state.counts (round_of state).counts (begins (one_more state.counts.rounds) ∷ lines_of state (round_events state))
    go done =
        record {
          events = λ so_far is.
              let more = count_by-cons is_event (begins (one_more state.counts.rounds)) (lines_of state (round_events state)) in
              let there = done.events so_far is in
              omega (arith, more, there);
          changes = done.changes;
          nulls = done.nulls;
          rounds = λ so_far is.
              let more = count_by-cons is_beginning (begins (one_more state.counts.rounds)) (lines_of state (round_events state)) in
              let there = done.rounds so_far is in
              omega (arith, more, there);
        }

counted_within : (count : ℕ) (state : State) → Tallied state.counts (completed_within count state).counts (lines_within count state)
counted_within zero state = counted_none state.counts
counted_within (suc count) state = go (is_complete state) (counted_within count (round_of state))
  where
    go : (complete : Bool) → Tallied (round_of state).counts (completed_within count (round_of state)).counts (lines_within count (round_of state)) →
        Tallied state.counts (cond complete state (completed_within count (round_of state))).counts
        (cond complete [] (round_lines state ++ lines_within count (round_of state)))
    go true rest = counted_none state.counts
    go false rest =
        counted_append state.counts (round_of state).counts (completed_within count (round_of state)).counts (round_lines state) (lines_within count (round_of state))
        (counted_round state) rest

counted_end : (counts : Counts) → Tallied counts counts (ends counts ∷ [])
counted_end counts = record {
  events = λ so_far is. let none = count_by-cons is_event (ends counts) [] in omega (arith, none, is);
  changes = omega arith;
  nulls = omega arith;
  rounds = λ so_far is. let none = count_by-cons is_beginning (ends counts) [] in omega (arith, none, is);
}

-- the lines of a run count what happened in it
pub counted_trace : (circuit : Circuit) (end : ℕ) (events : List Event) →
    Tallied (started circuit end).counts (state_at_end circuit end events).counts (trace_lines circuit end events)
counted_trace circuit end events =
    let start = started circuit end in
    let most = most_rounds end circuit in
    let after = steps start events in
    let ending = completed_within most after in
    counted_append start.counts ending.counts ending.counts (lines_of start events ++ lines_within most after) (ends ending.counts ∷ [])
    (counted_append start.counts after.counts ending.counts (lines_of start events) (lines_within most after)
    (counted_steps start events) (counted_within most after))
    (counted_end ending.counts)
