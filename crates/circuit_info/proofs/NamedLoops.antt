-- The loop that is named: one at most, and a loop of gates.
use Rattle.std.proofs.Common.{◌≡◌, ◌≢◌, ℕ, zero, suc, ◌+◌, ◌-◌, ◌<◌, Bool, true, false, IsTrue, List, ◌++◌, length, get_or, drop, refl, sym, ap, ◌∙◌, subst, arith, All, AllPairs, Contains, ⊎_elim}
use Rattle.std.proofs.lemmas.Bool.{cases_lt, cases_eq}
use Rattle.std.proofs.lemmas.List.{ext_get_or, get_or_default, get_or-take, length-take-le, get_or-append-add, length-append, drop_at}
use Rattle.netlist.specs.Netlist.{NetlistView}
use Rattle.netlist.proofs.CallerLemmas.{gate_within}
use Rattle.circuit_info.specs.Levels.{is_gate_at, pins_at, AreLinked, IsGateLoop}
use Rattle.circuit_info.specs.Loops.{HasLevel, at_source, IsLeastWithout, LeadsOn, IsNamedLoop}

module _ (netlist : NetlistView) where
  -- a net that has no level is driven by a gate
  pub gate_without : (net : ℕ) → (HasLevel netlist net → ⊥) → IsTrue (is_gate_at netlist net)
  gate_without net without = go (is_gate_at netlist net) refl
    where
      go : (gate : Bool) → is_gate_at netlist net ≡ gate → IsTrue (is_gate_at netlist net)
      go true is = is
      go false is = absurd (without (at_source net is))

  pub one_least : (net other : ℕ) → IsLeastWithout netlist net → IsLeastWithout netlist other → net ≡ other
  one_least net other a b = ⊎_elim
      (λ same. same)
      (λ apart. absurd (⊎_elim
      (λ less. a.without (b.least net less))
      (λ past. b.without (a.least other (omega (arith, past, apart))))
      (cases_lt net other)))
      (cases_eq net other)

  -- the nets at the pins before the one that a net leads on to have levels
  earlier_has : (net next place : ℕ) (a : LeadsOn netlist net next) → place < a.place → HasLevel netlist (get_or (pins_at netlist net) place 0)
  earlier_has net next place a before =
      subst (HasLevel netlist) (get_or-take a.place (pins_at netlist net) place 0 before)
      (a.first place 0 (omega (arith, before, a.within, length-take-le a.place (pins_at netlist net))))

  not_earlier : (net next other : ℕ) (a : LeadsOn netlist net next) (b : LeadsOn netlist net other) → a.place < b.place → ⊥
  not_earlier net next other a b before = a.without (subst (HasLevel netlist) a.at_pin (earlier_has net other a.place b before))

  pub LeadsOn-one : (net next other : ℕ) → LeadsOn netlist net next → LeadsOn netlist net other → next ≡ other
  LeadsOn-one net next other a b = ⊎_elim
      (λ same. sym a.at_pin ∙ ap (λ k. get_or (pins_at netlist net) k 0) same ∙ b.at_pin)
      (λ apart. absurd (⊎_elim
      (λ less. not_earlier net next other a b less)
      (λ past. not_earlier net other next b a (omega (arith, past, apart)))
      (cases_lt a.place b.place)))
      (cases_eq a.place b.place)

  pub LeadsOn-pin : (net next : ℕ) → LeadsOn netlist net next → Contains (pins_at netlist net) next
  LeadsOn-pin net next a = (a.place, a.within, get_or_default (pins_at netlist net) a.place next 0 a.within ∙ a.at_pin)

  module _ (nets : List ℕ) (a : IsNamedLoop netlist nets) where
    abbrev pub walked : List ℕ
    walked = a.way ++ nets

    size : length walked ≡ length a.way + length nets
    size = length-append a.way nets

    pub at_loop : (k : ℕ) → get_or walked (length a.way + k) 0 ≡ get_or nets k 0
    at_loop k = get_or-append-add a.way nets k 0

    -- the last net of the walk leads on to the first one of the loop
    pub turns_back : (last : ℕ) → last + 1 ≡ length walked → LeadsOn netlist (get_or walked last 0) (get_or walked (length a.way) 0)
    turns_back last is =
        let here : length a.way + (length nets - 1) ≡ last = omega (arith, size, a.some, is) in
        let back : length a.way + 0 ≡ length a.way = omega arith in
        subst (λ net. LeadsOn netlist net (get_or walked (length a.way) 0)) (sym (at_loop (length nets - 1)) ∙ ap (λ k. get_or walked k 0) here)
        (subst (LeadsOn netlist (get_or nets (length nets - 1) 0)) (sym (at_loop 0) ∙ ap (λ k. get_or walked k 0) back) a.closed)

    pub turns_within : length a.way < length walked
    turns_within = omega (arith, size, a.some)

    pub apart : (i j : ℕ) → i < length walked → j < length walked → get_or walked i 0 ≡ get_or walked j 0 → i ≡ j
    apart i j i_in j_in same = ⊎_elim
        (λ is. is)
        (λ differ. absurd (⊎_elim
        (λ less. a.once i j 0 less j_in same)
        (λ past. a.once j i 0 (omega (arith, past, differ)) i_in (sym same))
        (cases_lt i j)))
        (cases_eq i j)

    -- a net of the loop has no level
    pub loop_without : (place : ℕ) → place < length nets → HasLevel netlist (get_or nets place 0) → ⊥
    loop_without zero within = a.closed.without
    loop_without (suc place) within =
        let next : length a.way + place + 1 ≡ length a.way + suc place = omega arith in
        let lead = a.walk (length a.way + place) (omega (arith, size, within)) in
        subst (λ net. HasLevel netlist net → ⊥) (ap (λ k. get_or walked k 0) next ∙ at_loop (suc place)) lead.without

    linked : AreLinked netlist nets
    linked place within =
        let next : length a.way + place + 1 ≡ length a.way + (place + 1) = omega arith in
        let lead = a.walk (length a.way + place) (omega (arith, size, within)) in
        subst (λ net. Contains (pins_at netlist net) (get_or nets (place + 1) 0)) (at_loop place)
        (subst (Contains (pins_at netlist (get_or walked (length a.way + place) 0))) (ap (λ k. get_or walked k 0) next ∙ at_loop (place + 1))
        (LeadsOn-pin _ _ lead))

    once : AllPairs (λ (earlier later : ℕ). earlier ≢ later) nets
    once i j d before within same =
        let places = apart (length a.way + i) (length a.way + j) (omega (arith, size, before, within)) (omega (arith, size, within))
        (at_loop i ∙ get_or_default nets i 0 d (omega (arith, before, within)) ∙ same ∙ get_or_default nets j d 0 within ∙ sym (at_loop j)) in
        omega (arith, before, places)

    pub IsGateLoop-named : IsGateLoop netlist nets
    IsGateLoop-named = record {
      some = a.some;
      gates = λ place d within. subst (λ net. IsTrue (is_gate_at netlist net)) (get_or_default nets place 0 d within) (gate_without _ (loop_without place within));
      once = once;
      linked = linked;
      closed = LeadsOn-pin _ _ a.closed;
    }

    pub loop_below : All (λ net. net < length netlist.nets) nets
    loop_below place d within = gate_within netlist.nets _ (IsGateLoop-named.gates place d within)

  module _ (nets others : List ℕ) (a : IsNamedLoop netlist nets) (b : IsNamedLoop netlist others) where
    same_so_far : (place : ℕ) → place < length (walked nets a) → place < length (walked others b) → get_or (walked nets a) place 0 ≡ get_or (walked others b) place 0
    same_so_far zero in_a in_b = one_least _ _ a.least b.least
    same_so_far (suc place) in_a in_b =
        let next : place + 1 ≡ suc place = omega arith in
        let before = same_so_far place (omega (arith, in_a)) (omega (arith, in_b)) in
        let lead_a = a.walk place (omega (arith, in_a)) in
        let lead_b = subst (λ net. LeadsOn netlist net (get_or (walked others b) (place + 1) 0)) (sym before) (b.walk place (omega (arith, in_b))) in
        ap (λ k. get_or (walked nets a) k 0) (sym next) ∙ LeadsOn-one _ _ _ lead_a lead_b ∙ ap (λ k. get_or (walked others b) k 0) next

    -- where the first walk turns back, the other one does
    not_shorter : length (walked nets a) < length (walked others b) → ⊥
    not_shorter shorter =
        let turn = turns_within nets a in
        let last : ℕ = length (walked nets a) - 1 in
        let ends : last + 1 ≡ length (walked nets a) = omega (arith, turn) in
        let back = turns_back nets a last ends in
        let on = subst (λ net. LeadsOn netlist net (get_or (walked others b) (last + 1) 0)) (sym (same_so_far last (omega (arith, ends)) (omega (arith, ends, shorter))))
        (b.walk last (omega (arith, ends, shorter))) in
        let again = sym (same_so_far (length a.way) turn (omega (arith, turn, shorter))) ∙ LeadsOn-one _ _ _ back on in
        let places = apart others b (length a.way) (last + 1) (omega (arith, turn, shorter)) (omega (arith, ends, shorter)) again in
        omega (arith, places, ends, turn)

  module _ (nets others : List ℕ) (a : IsNamedLoop netlist nets) (b : IsNamedLoop netlist others) where
    same_length : length (walked nets a) ≡ length (walked others b)
    same_length = ⊎_elim
        (λ less. absurd (not_shorter nets others a b less))
        (λ past. ⊎_elim
        (λ less. absurd (not_shorter others nets b a less))
        (λ other. omega (arith, past, other))
        (cases_lt (length (walked others b)) (length (walked nets a))))
        (cases_lt (length (walked nets a)) (length (walked others b)))

    same_walk : walked nets a ≡ walked others b
    same_walk = ext_get_or 0 _ _ same_length (λ place within. same_so_far nets others a b place within (omega (arith, within, same_length)))

    same_way : length a.way ≡ length b.way
    same_way =
        let last : ℕ = length (walked nets a) - 1 in
        let ends : last + 1 ≡ length (walked nets a) = omega (arith, turns_within nets a) in
        let back_a = subst (λ nets. LeadsOn netlist (get_or nets last 0) (get_or nets (length a.way) 0)) same_walk (turns_back nets a last ends) in
        let back_b = turns_back others b last (ends ∙ same_length) in
        apart others b (length a.way) (length b.way) (omega (arith, turns_within nets a, same_length)) (turns_within others b) (LeadsOn-one _ _ _ back_a back_b)

    pub one_named_loop : nets ≡ others
    one_named_loop = sym (drop_at a.way nets (length a.way) refl) ∙ ap (drop (length a.way)) same_walk ∙ drop_at b.way others (length a.way) (sym same_way)
