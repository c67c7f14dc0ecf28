-- Rounds with their rows, until a run is complete.
use Rattle.std.proofs.Common.{◌≡◌, ℕ, zero, suc, ◌-◌, ◌+◌, ◌<◌, ◌≤◌, min, true, false, cond, List, [], ◌∷◌, ◌++◌, Option, ap, sym, subst, ◌∙◌, arith, append_assoc, append-nil}
use Rattle.design.specs.Circuit.{Circuit, IsCircuit}
use Rattle.cmb_kernel.specs.State.{State, KernelView, IsComplete, is_complete, least_delay, least_frontier}
use Rattle.cmb_kernel.specs.Step.{round_of, rounds}
use Rattle.cmb_kernel.specs.Sound.{IsSound}
use Rattle.cmb_kernel.proofs.CallerLemmas.{falls, is_complete-from}
use Rattle.texts.specs.Written.{AppendsPrefix, GoesOut}
use Rattle.texts.proofs.CallerLemmas.{GoesOut-then, GoesOut-fault}
use Rattle.event_trace.specs.Frontiers.{headings, round_row, row_text, rows_within, table_text}
use Rattle.event_trace.proofs.GoingOut.{GoesOut-none}

-- what went out, what waits and the rows of the rounds to come are the whole; and these rounds lead to the end
pub record RowsLeft (circuit : Circuit) (end : ℕ) (nets : List ℕ) (old now : Option (List ℕ)) (whole : List ℕ) (state : State) (text : List ℕ) : Type 0 where
  pub left : ℕ
  pub complete : IsComplete (rounds left state)
  pub goes : GoesOut old now whole (text ++ table_text circuit end nets (rows_within left state))

module _ (circuit : Circuit) (end : ℕ) (nets : List ℕ) where
  -- before the first round all are left
  pub all_rows_left : (most : ℕ) (state : State) (out : Option (List ℕ)) (text : List ℕ) → IsComplete (rounds most state) →
      RowsLeft circuit end nets out out (text ++ table_text circuit end nets (rows_within most state)) state text
  all_rows_left most state out text complete =
      record { left = most; complete = complete; goes = GoesOut-none out (text ++ table_text circuit end nets (rows_within most state)) }

  module _ (old now : Option (List ℕ)) (whole : List ℕ) (state : State) (text : List ℕ) (so_far : RowsLeft circuit end nets old now whole state text) where
    -- at the end none is left
    pub no_row_left : is_complete state ≡ true → GoesOut old now whole text
    no_row_left complete = go so_far.left so_far.goes
      where
        go : (left : ℕ) → GoesOut old now whole (text ++ table_text circuit end nets (rows_within left state)) → GoesOut old now whole text
        go zero goes = subst (GoesOut old now whole) (append-nil text) goes
        go (suc left) goes =
            subst (GoesOut old now whole)
            (ap (λ b. text ++ table_text circuit end nets (cond b [] (round_row (round_of state) ∷ rows_within left (round_of state)))) complete
            ∙ append-nil text) goes

    module _ (incomplete : is_complete state ≡ false) where
      abbrev next_row : List ℕ
      next_row = row_text circuit end nets (round_row (round_of state))

      -- what is left after the next round
      record OneLess : Type 0 where
        pub left : ℕ
        pub complete : IsComplete (rounds left (round_of state))
        pub goes : GoesOut old now whole ((text ++ next_row) ++ table_text circuit end nets (rows_within left (round_of state)))

      one_less : OneLess
      one_less = go so_far.left so_far.complete so_far.goes
        where
          go : (left : ℕ) → IsComplete (rounds left state) → GoesOut old now whole (text ++ table_text circuit end nets (rows_within left state)) → OneLess
          go zero complete goes = absurd (let done : is_complete state ≡ true = is_complete-from state complete in cc)
          go (suc left) complete goes = record {
            left = left;
            complete = complete;
            goes = subst (GoesOut old now whole)
                (ap (λ b. text ++ table_text circuit end nets (cond b [] (round_row (round_of state) ∷ rows_within left (round_of state)))) incomplete
                ∙ sym (append_assoc text next_row (table_text circuit end nets (rows_within left (round_of state))))) goes;
          }

      module _ (new : Option (List ℕ)) where
        -- after a round one less is left
        pub one_row_less : (next : State) (waiting : List ℕ) → next ≡ round_of state → GoesOut now new (text ++ next_row) waiting →
            RowsLeft circuit end nets old new whole next waiting
        one_row_less next waiting is out =
            let less = one_less in
            record {
              left = less.left;
              complete = subst (λ (s : State). IsComplete (rounds less.left s)) (sym is) less.complete;
              goes = subst (λ (s : State). GoesOut old new whole (waiting ++ table_text circuit end nets (rows_within less.left s))) (sym is)
                  (GoesOut-then old now new whole (text ++ next_row) waiting (table_text circuit end nets (rows_within less.left (round_of state))) less.goes out);
            }

        -- a row that is broken off
        pub broken_row : AppendsPrefix now new (text ++ next_row) → AppendsPrefix old new whole
        broken_row fault =
            let less = one_less in
            GoesOut-fault old now new whole (text ++ next_row) (table_text circuit end nets (rows_within less.left (round_of state))) less.goes fault

-- what is left to the end is less after a round
pub nearer : (start kernel new : KernelView) → IsCircuit start.circuit → kernel ≡ record start { state = kernel.state } →
    new ≡ record kernel { state = round_of kernel.state } → IsSound kernel.circuit kernel.end kernel.state → is_complete kernel.state ≡ false →
    min start.end (least_frontier start.end kernel.state + least_delay start.end start.circuit) ≤ least_frontier start.end (round_of kernel.state) →
    new.end - least_frontier new.end new.state < kernel.end - least_frontier kernel.end kernel.state
nearer start kernel new ok run goes sound incomplete raised =
    let here : IsSound start.circuit start.end kernel.state = subst (λ (k : KernelView). IsSound k.circuit k.end kernel.state) run sound in
    let fell : start.end - least_frontier start.end (round_of kernel.state) < start.end - least_frontier start.end kernel.state =
    falls start.circuit ok start.end kernel.state (least_frontier start.end (round_of kernel.state)) here incomplete raised in
    let after : new.end - least_frontier new.end new.state ≡ kernel.end - least_frontier kernel.end (round_of kernel.state) =
    ap (λ (k : KernelView). k.end - least_frontier k.end k.state) goes in
    let over : kernel.end - least_frontier kernel.end (round_of kernel.state) ≡ start.end - least_frontier start.end (round_of kernel.state) =
    ap (λ (k : KernelView). k.end - least_frontier k.end (round_of kernel.state)) run in
    let before : kernel.end - least_frontier kernel.end kernel.state ≡ start.end - least_frontier start.end kernel.state =
    ap (λ (k : KernelView). k.end - least_frontier k.end kernel.state) run in
    omega (arith, fell, after, over, before)

-- a round leaves a kernel's circuit and end
pub round_on : (start kernel new : KernelView) → kernel ≡ record start { state = kernel.state } →
    new ≡ record kernel { state = round_of kernel.state } → new ≡ record start { state = new.state }
round_on start kernel new run goes =
    goes ∙ ap (λ (k : KernelView). record k { state = round_of kernel.state }) run
    ∙ ap (λ (k : KernelView). record start { state = k.state }) (sym goes)

-- so the row after it is one of the table
module _ (start kernel : KernelView) (nets : List ℕ) (now new : Option (List ℕ)) (text : List ℕ) where
  pub row_over : (waiting : List ℕ) → kernel ≡ record start { state = kernel.state } →
      GoesOut now new (text ++ row_text kernel.circuit kernel.end nets (round_row (round_of kernel.state))) waiting →
      GoesOut now new (text ++ row_text start.circuit start.end nets (round_row (round_of kernel.state))) waiting
  row_over waiting run = subst (λ (k : KernelView). GoesOut now new (text ++ row_text k.circuit k.end nets (round_row (round_of kernel.state))) waiting) run

  pub part_over : kernel ≡ record start { state = kernel.state } →
      AppendsPrefix now new (text ++ row_text kernel.circuit kernel.end nets (round_row (round_of kernel.state))) →
      AppendsPrefix now new (text ++ row_text start.circuit start.end nets (round_row (round_of kernel.state)))
  part_over run = subst (λ (k : KernelView). AppendsPrefix now new (text ++ row_text k.circuit k.end nets (round_row (round_of kernel.state)))) run

-- ---- the table

-- the headings over a kernel's circuit
pub heading_over : (circuit : Circuit) (kernel : KernelView) (end : ℕ) (nets none first : List ℕ) → circuit ≡ kernel.circuit → end ≡ kernel.end →
    first ≡ none ++ row_text circuit end nets (headings circuit) → first ≡ none ++ row_text kernel.circuit kernel.end nets (headings kernel.circuit)
heading_over circuit kernel end nets none first same last is = is ∙ (λ i. none ++ row_text (same i) (last i) nets (headings (same i)))

-- the headings, the first row and all others
pub rows_together : (none first second heading start rest : List ℕ) → none ≡ [] → first ≡ none ++ heading → second ≡ first ++ start →
    second ++ rest ≡ heading ++ (start ++ rest)
rows_together none first second heading start rest empty one two =
    ap (λ (xs : List ℕ). xs ++ rest) (two ∙ ap (λ (xs : List ℕ). xs ++ start) (one ∙ ap (λ (xs : List ℕ). xs ++ heading) empty))
    ∙ append_assoc heading start rest
