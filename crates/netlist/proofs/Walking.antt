-- The walk from gates back over their pins, step by step.
use Rattle.std.proofs.Common.{◌≡◌, ℕ, zero, suc, ◌+◌, ◌==◌, ◌&&◌, ◌<◌, ◌≤◌, Bool, true, false, cond, IsTrue, true≢false, List, [], ◌∷◌, ◌++◌, length, get_or, set, Some, refl, sym, ap, ◌∙◌, subst, arith, All, Contains, ◌⊎◌, inl, inr, ⊎_elim, length-set}
use Rattle.std.proofs.lemmas.Bool.{eqb-true, eq-eqb, eqb-false}
use Rattle.std.proofs.lemmas.List.{get_or-set_other, get_or_default, map-append}
use Rattle.std.proofs.lemmas.List.Elements.{All-push, All-weaker, All-pop, All-map, All-contains, Contains-get_or, Contains-push, Contains-push_cases}
use Rattle.std.proofs.lemmas.List.Quantifiers.{all_pairs_push}
use Rattle.netlist.specs.declared.order.Step.{Step}
use Rattle.netlist.specs.Netlist.{NetView}
use Rattle.netlist.specs.Repeats.{times}
use Rattle.netlist.specs.Marks.{is_seen, KeepsSeen}
use Rattle.netlist.specs.Flow.{net_in, is_gate_in, Feeds, FlowsTo, straight}
use Rattle.netlist.specs.Walk.{SeenBefore, HasLooked, gates_on, IsWalk}
use Rattle.netlist.proofs.Behind.{Behind, AtEach-push, follows_from_each, each_from_follows}
use Rattle.netlist.proofs.Gates.{flows_on, gate_within}
use Rattle.netlist.proofs.Marks.{seen_now, seen_still}
use Rattle.netlist.proofs.Pairs.{AllPairs-front, AllPairs-last}
use Rattle.netlist.proofs.Times.{other_way, times_push, some_time, contains_from_times}

-- another net is as it was
still_so : (seen : List Bool) (net other : ℕ) → (other == net) ≡ false → is_seen (set seen net true) other ≡ is_seen seen other
still_so seen net other e = get_or-set_other seen net other true false (eqb-false other net e)

cases_zero : (n : ℕ) → (n ≡ 0) ⊎ (0 < n)
cases_zero zero = inl refl
cases_zero (suc n) = inr (omega arith)

gates_on_push : (path : List Step) (step : Step) → gates_on (path ++ step ∷ []) ≡ gates_on path ++ step.gate ∷ []
gates_on_push path step = map-append (λ (step : Step). step.gate) path (step ∷ [])

-- ---- the steps

module _ {nets : List NetView} {seen : List Bool} {left : List ℕ} where
  -- a gate that was not seen is entered
  pub IsWalk-enter : (path : List Step) → IsWalk nets seen path left → (gate : ℕ) → gate < length nets → is_seen seen gate ≡ false →
      All (λ (below : Step). FlowsTo nets gate below.gate) path →
      IsWalk nets (set seen gate true) (path ++ record { gate = gate; place = 0 } ∷ []) left
  IsWalk-enter path walk gate below new hang =
      record {
        size = length-set seen gate true ∙ walk.size;
        gates = λ net within unseen. walk.gates net within (was_unseen net unseen);
        each = λ net. ap (λ on. times net left + times net on) (gates_on_push path _) ∙ ap (λ n. times net left + n) (times_push net (gates_on path) gate)
            ∙ entered net;
        looked = All-push (HasLooked nets (set seen gate true)) path _
            (All-weaker (HasLooked nets seen) (HasLooked nets (set seen gate true)) (λ step old k before within. kept _ (old k before within)) path walk.looked)
            (λ k before within. absurd (omega (arith, before)));
        hangs = all_pairs_push (λ (below above : Step). FlowsTo nets above.gate below.gate) path _ walk.hangs hang;
        follows = walk.follows;
      }
    where
      here : gate < length seen
      here = rw walk.size below

      kept : KeepsSeen seen (set seen gate true)
      kept = seen_still seen gate here

      was_unseen : (net : ℕ) → is_seen (set seen gate true) net ≡ false → is_seen seen net ≡ false
      was_unseen net now = go (is_seen seen net) refl
        where
          go : (was : Bool) → is_seen seen net ≡ was → was ≡ false
          go true e = absurd (true≢false (sym (kept net e) ∙ now))
          go false e = refl

      entered : (net : ℕ) → times net left + (times net (gates_on path) + cond (gate == net) 1 0)
          ≡ cond (is_gate_in nets net && is_seen (set seen gate true) net) 1 0
      entered net = go (net == gate) refl
        where
          go : (same : Bool) → (net == gate) ≡ same → times net left + (times net (gates_on path) + cond (gate == net) 1 0)
              ≡ cond (is_gate_in nets net && is_seen (set seen gate true) net) 1 0
          go true e =
              let same : net ≡ gate = eqb-true net gate e in
              subst (λ net. times net left + (times net (gates_on path) + cond (gate == net) 1 0)
              ≡ cond (is_gate_in nets net && is_seen (set seen gate true) net) 1 0) (sym same)
              (rw (eq-eqb gate gate refl, walk.gates gate below new, seen_now seen gate here)
              (omega (arith, none)))
            where
              none : times gate left + times gate (gates_on path) ≡ 0
              none = walk.each gate ∙ rw (new, walk.gates gate below new) refl
          go false e =
              rw (still_so seen gate net e, other_way net gate e) (omega (arith, walk.each net))

-- ---- the gate that the path ends with

-- a gate that was entered is a gate that was seen
entered_gate : (gate seen : Bool) → 0 < cond (gate && seen) 1 0 → (gate ≡ true) × (seen ≡ true)
entered_gate true true some = (refl, refl)
entered_gate true false some = absurd (omega (arith, some))
entered_gate false true some = absurd (omega (arith, some))
entered_gate false false some = absurd (omega (arith, some))

module _ {nets : List NetView} {seen : List Bool} {left : List ℕ} (rest : List Step) (step : Step) (walk : IsWalk nets seen (rest ++ step ∷ []) left) where
  last_gate : IsTrue (is_gate_in nets step.gate) × IsTrue (is_seen seen step.gate)
  last_gate =
      let on : 0 < times step.gate (gates_on (rest ++ step ∷ [])) =
      rw (gates_on_push rest step) (some_time step.gate (gates_on rest ++ step.gate ∷ []) (Contains-push (gates_on rest) step.gate)) in
      entered_gate (is_gate_in nets step.gate) (is_seen seen step.gate) (omega (arith, on, walk.each step.gate))

  pub last_below : step.gate < length nets
  last_below = gate_within nets step.gate last_gate.0

  -- values flow from it to each gate below it on the path
  last_hangs : All (λ (below : Step). FlowsTo nets step.gate below.gate) rest
  last_hangs k d within = AllPairs-last (λ (below above : Step). FlowsTo nets above.gate below.gate) rest step walk.hangs k d within

  module _ (pins : List ℕ) (pins_are : pins ≡ (net_in nets step.gate).pins) where
    pub last_looked : SeenBefore seen pins step.place
    last_looked =
        subst (λ pins. SeenBefore seen pins step.place) (sym pins_are)
        (All-contains (HasLooked nets seen) (rest ++ step ∷ []) step walk.looked (Contains-push rest step))

    -- its pins before a place were seen
    IsWalk-stay : (place : ℕ) → SeenBefore seen pins place → IsWalk nets seen (rest ++ record { gate = step.gate; place = place } ∷ []) left
    IsWalk-stay place before = record {
      size = walk.size;
      gates = walk.gates;
      each = λ net. ap (λ on. times net left + times net on) (gates_on_push rest _ ∙ sym (gates_on_push rest step)) ∙ walk.each net;
      looked = All-push (HasLooked nets seen) rest _ (All-pop (HasLooked nets seen) (rest ++ step ∷ []) rest (Some step) refl walk.looked).0
          (subst (λ pins. SeenBefore seen pins place) pins_are before);
      hangs = all_pairs_push (λ (below above : Step). FlowsTo nets above.gate below.gate) rest _
          (AllPairs-front (λ (below above : Step). FlowsTo nets above.gate below.gate) rest step walk.hangs) last_hangs;
      follows = walk.follows;
    }

    -- on to a gate at one of its pins
    pub IsWalk-on : (place : ℕ) → SeenBefore seen pins place → place < length pins → get_or pins place 0 < length nets →
        is_seen seen (get_or pins place 0) ≡ false →
        IsWalk nets (set seen (get_or pins place 0) true)
        (rest ++ record { gate = step.gate; place = place } ∷ [] ++ record { gate = get_or pins place 0; place = 0 } ∷ []) left
    IsWalk-on place before within below new =
        IsWalk-enter (rest ++ record { gate = step.gate; place = place } ∷ []) (IsWalk-stay place before) (get_or pins place 0) below new
        (All-push (λ (below : Step). FlowsTo nets (get_or pins place 0) below.gate) rest _
        (All-weaker (λ (below : Step). FlowsTo nets step.gate below.gate) (λ (below : Step). FlowsTo nets (get_or pins place 0) below.gate)
        (λ below flows. flows_on below.gate flow flows) rest last_hangs)
        flow)
      where
        flow : FlowsTo nets (get_or pins place 0) step.gate
        flow = straight step.gate (record {
          by_gate = last_gate.0;
          at_pin = subst (λ those. Contains those (get_or pins place 0)) pins_are (Contains-get_or pins place 0 within);
        })

    -- back from it, when all its pins were seen
    pub IsWalk-leave : (place : ℕ) → SeenBefore seen pins place → length pins ≤ place → IsWalk nets seen rest (left ++ step.gate ∷ [])
    IsWalk-leave place before all = record {
      size = walk.size;
      gates = walk.gates;
      each = λ net. moved net;
      looked = (All-pop (HasLooked nets seen) (rest ++ step ∷ []) rest (Some step) refl walk.looked).0;
      hangs = AllPairs-front (λ (below above : Step). FlowsTo nets above.gate below.gate) rest step walk.hangs;
      follows = follows_from_each nets (left ++ step.gate ∷ [])
          (AtEach-push (Behind nets) left step.gate (each_from_follows nets left walk.follows) behind);
    }
      where
        moved : (net : ℕ) → times net (left ++ step.gate ∷ []) + times net (gates_on rest)
            ≡ cond (is_gate_in nets net && is_seen seen net) 1 0
        moved net =
            let on = ap (times net) (gates_on_push rest step) ∙ times_push net (gates_on rest) step.gate in
            omega (arith, on, times_push net left step.gate, walk.each net)

        behind : Behind nets left step.gate
        behind source gate feeds = ⊎_elim
            (λ none. inr (⊎_elim
            (λ earlier. All-contains (FlowsTo nets step.gate) (gates_on rest) source (All-map (FlowsTo nets step.gate) (λ (step : Step). step.gate) rest last_hangs) earlier)
            (λ same. subst (FlowsTo nets step.gate) same (straight step.gate (subst (λ n. Feeds nets n step.gate) (sym same) feeds)))
            (Contains-push_cases (gates_on rest) step.gate source
            (contains_from_times source (gates_on rest ++ step.gate ∷ []) (omega (arith, counted, none, ap (times source) (gates_on_push rest step)))))))
            (λ some. inl (contains_from_times source left some))
            (cases_zero (times source left))
          where
            source_seen : IsTrue (is_seen seen source)
            source_seen = seen_pin (subst (λ pins. Contains pins source) (sym pins_are) feeds.at_pin)
              where
                seen_pin : Contains pins source → IsTrue (is_seen seen source)
                seen_pin (k, within, is) =
                    ap (is_seen seen) (sym is ∙ get_or_default pins k source 0 within) ∙ before k (omega (arith, within, all)) within

            counted : times source left + times source (gates_on (rest ++ step ∷ [])) ≡ 1
            counted = walk.each source ∙ rw (source_seen, gate) refl
