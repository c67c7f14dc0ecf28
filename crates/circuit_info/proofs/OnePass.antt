-- The pass over gates in the order in which values flow, gate by gate.
use Rattle.std.proofs.Common.{◌≡◌, ◌≢◌, ℕ, ◌+◌, ◌==◌, ◌&&◌, ◌<◌, ◌≤◌, not, Bool, true, false, cond, IsTrue, true≢false, List, [], ◌∷◌, ◌++◌, length, get_or, set, take, map, refl, sym, ap, ◌∙◌, subst, arith, All, Contains, ◌⊎◌, inl, inr, ⊎_elim, length-set}
use Rattle.std.proofs.lemmas.Bool.{cases_eq, eqb-true}
use Rattle.std.proofs.lemmas.List.{get_or-set_same, get_or-set_other, get_or-map, get_or-take, get_or_default, length-map, length-take-le, take_more}
use Rattle.std.proofs.lemmas.List.Elements.{All-weaker, Contains-append_left, Contains-get_or, Contains-push, Contains-push_cases}
use Rattle.std.proofs.lemmas.Option.{slice_get-get_or}
use Rattle.netlist.specs.Netlist.{NetView, NetlistView}
use Rattle.netlist.specs.Repeats.{times}
use Rattle.netlist.specs.Flow.{is_gate_in, Feeds, FlowsTo, straight, through, FollowsFlow}
use Rattle.netlist.proofs.CallerLemmas.{flows_on, gate_within, once_from_times, some_time}
use Rattle.circuit_info.specs.Levels.{greatest, is_gate_at, pins_at, level_at, level_above}
use Rattle.circuit_info.specs.Loops.{HasLevel, at_source, above_pins}
use Rattle.circuit_info.specs.Known.{is_known, KnownBefore}
use Rattle.circuit_info.proofs.Marks.{cases_zero, levelled, one_more_level}
use Rattle.circuit_info.proofs.Tops.{greatest_least, map_alike}

-- a gate whose level is that above its pins
pub record IsLevelled (netlist : NetlistView) (levels : List ℕ) (net : ℕ) : Type 0 where
  pub gate : IsTrue (is_gate_at netlist net)
  pub known : All (λ pin. IsTrue (is_known netlist levels pin)) (pins_at netlist net)
  pub level : level_at levels net ≡ level_above netlist levels net

-- the levels after a pass over these gates: each has its level, or none
pub record IsPassed (netlist : NetlistView) (done levels : List ℕ) : Type 0 where
  pub size : length levels ≡ length netlist.nets
  pub known : (net : ℕ) → 0 < level_at levels net → IsLevelled netlist levels net
  pub few : (net : ℕ) → level_at levels net ≤ levelled levels
  pub among : (net : ℕ) → 0 < level_at levels net → Contains done net
  pub each : (net : ℕ) → Contains done net → (0 < level_at levels net) ⊎ (HasLevel netlist net → ⊥)

-- what is not known is a gate without a level
pub unknown_gate : (netlist : NetlistView) (levels : List ℕ) (net : ℕ) → is_known netlist levels net ≡ false →
    IsTrue (is_gate_at netlist net) × (level_at levels net ≡ 0)
unknown_gate netlist levels net unknown = go (is_gate_at netlist net) (level_at levels net == 0) refl unknown
  where
    go : (gate none : Bool) → (level_at levels net == 0) ≡ none → not (gate && none) ≡ false → IsTrue gate × (level_at levels net ≡ 0)
    go true true e is = (refl, eqb-true (level_at levels net) 0 e)
    go true false e is = absurd (true≢false is)
    go false true e is = absurd (true≢false is)
    go false false e is = absurd (true≢false is)

-- when the levels of the pins before a place are known, and no pin is past it, all are known
pub all_known : (netlist : NetlistView) (levels pins : List ℕ) (place : ℕ) → KnownBefore netlist levels pins place → length pins ≤ place →
    All (λ pin. IsTrue (is_known netlist levels pin)) pins
all_known netlist levels pins place before past k d within =
    subst (λ pin. IsTrue (is_known netlist levels pin)) (get_or_default pins k 0 d within) (before k (omega (arith, within, past)) within)

-- ---- gates in a loop

-- the last step of a flow
last_step : {nets : List NetView} {from to : ℕ} → FlowsTo nets from to → (middle : ℕ) × Feeds nets middle to × ((from ≡ middle) ⊎ FlowsTo nets from middle)
last_step {from = from} (straight to feeds) = (from, feeds, inl refl)
last_step (through middle to flow feeds) = (middle, feeds, inr flow)

-- where values flow back to a net, they do so through one of its pins
loop_at_pin : (nets : List NetView) (net : ℕ) → FlowsTo nets net net → (pin : ℕ) × Feeds nets pin net × FlowsTo nets pin pin
loop_at_pin nets net flow =
    let last = last_step flow in (
      last.0,
      last.1,
      ⊎_elim
          (λ same. subst (λ pin. FlowsTo nets pin pin) same flow)
          (λ flows. flows_on last.0 (straight net last.1) flows)
          last.2,
    )

-- a gate in a loop has no level
loop_without : (netlist : NetlistView) (net : ℕ) → HasLevel netlist net → FlowsTo netlist.nets net net → ⊥
loop_without netlist _ (at_source net is) flow = true≢false (sym (loop_at_pin netlist.nets net flow).1.by_gate ∙ is)
loop_without netlist _ (above_pins net is pins) flow =
    let at = loop_at_pin netlist.nets net flow in
    loop_without netlist at.0 (pins at.0 at.1.at_pin) at.2

-- each pin of a gate that has a level has one
pin_has : (netlist : NetlistView) (net pin : ℕ) → IsTrue (is_gate_at netlist net) → HasLevel netlist net → Contains (pins_at netlist net) pin → HasLevel netlist pin
pin_has netlist _ pin gate (at_source net is) at = absurd (true≢false (sym gate ∙ is))
pin_has netlist _ pin gate (above_pins net is pins) at = pins pin at

-- ---- one gate more

module _ (netlist : NetlistView) (done levels : List ℕ) (passed : IsPassed netlist done levels) (gate : ℕ) (is : IsTrue (is_gate_at netlist gate)) where
  -- it gets its level, when those of all its pins are known
  module _ (new : Contains done gate → ⊥) (all : All (λ pin. IsTrue (is_known netlist levels pin)) (pins_at netlist gate)) where
    abbrev level : ℕ
    level = level_above netlist levels gate

    abbrev after : List ℕ
    after = set levels gate level

    inside : gate < length levels
    inside = rw passed.size (gate_within netlist.nets gate is)

    none : level_at levels gate ≡ 0
    none = ⊎_elim (λ none. none) (λ some. absurd (new (passed.among gate some))) (cases_zero (level_at levels gate))

    level_same : level_at after gate ≡ level
    level_same = get_or-set_same levels gate level 0 inside

    level_other : (net : ℕ) → net ≢ gate → level_at after net ≡ level_at levels net
    level_other net apart = get_or-set_other levels gate net level 0 apart

    some_level : 0 < level
    some_level = omega arith

    some_still : (net : ℕ) → 0 < level_at levels net → 0 < level_at after net
    some_still net some = elim (cases_eq net gate) [
      | inl same ↦ let is = ap (level_at after) same ∙ level_same in omega (arith, is, some_level)
      | inr apart ↦ omega (arith, level_other net apart, some)
    ]

    known_apart : (net : ℕ) → IsTrue (is_known netlist levels net) → net ≢ gate
    known_apart net known same = true≢false (sym known ∙ ap (is_known netlist levels) same ∙ rw (is, none) refl)

    known_still : (net : ℕ) → IsTrue (is_known netlist levels net) → IsTrue (is_known netlist after net)
    known_still net known = ap (λ n. not (is_gate_at netlist net && (n == 0))) (level_other net (known_apart net known)) ∙ known

    above_same : (net : ℕ) → All (λ pin. IsTrue (is_known netlist levels pin)) (pins_at netlist net) → level_above netlist levels net ≡ level_above netlist after net
    above_same net known = ap (λ numbers. greatest numbers + 1) (map_alike (level_at levels) (level_at after) (pins_at netlist net)
        (λ k within. sym (level_other _ (known_apart _ (known k 0 within)))))

    still : (net : ℕ) → All (λ pin. IsTrue (is_known netlist levels pin)) (pins_at netlist net) → All (λ pin. IsTrue (is_known netlist after pin)) (pins_at netlist net)
    still net known = All-weaker (λ pin. IsTrue (is_known netlist levels pin)) (λ pin. IsTrue (is_known netlist after pin)) known_still (pins_at netlist net) known

    IsLevelled-new : IsLevelled netlist after gate
    IsLevelled-new = record { gate = is; known = still gate all; level = level_same ∙ above_same gate all }

    IsLevelled-kept : (net : ℕ) → net ≢ gate → IsLevelled netlist levels net → IsLevelled netlist after net
    IsLevelled-kept net apart old = record {
      gate = old.gate;
      known = still net old.known;
      level = level_other net apart ∙ old.level ∙ above_same net old.known;
    }

    few_above : level ≤ levelled levels + 1
    few_above =
        let top = greatest_least (map (level_at levels) (pins_at netlist gate)) (levelled levels) (λ i within.
        let within_pins : i < length (pins_at netlist gate) = omega (arith, within, length-map (pins_at netlist gate) (level_at levels)) in
        subst (λ n. n ≤ levelled levels) (sym (get_or-map (level_at levels) (pins_at netlist gate) i 0 0 within_pins)) (passed.few (get_or (pins_at netlist gate) i 0))) in
        omega (arith, top)

    IsPassed-level : IsPassed netlist (done ++ gate ∷ []) after
    IsPassed-level = record {
      size = length-set levels gate level ∙ passed.size;
      known = λ net some. elim (cases_eq net gate) [
        | inl same ↦ subst (IsLevelled netlist after) (sym same) IsLevelled-new
        | inr apart ↦ IsLevelled-kept net apart (passed.known net (subst (λ n. 0 < n) (level_other net apart) some))
      ];
      few = λ net. rw (one_more_level levels gate level inside none some_level) (elim (cases_eq net gate) [
        | inl same ↦ let is = ap (level_at after) same ∙ level_same in omega (arith, is, few_above)
        | inr apart ↦ omega (arith, level_other net apart, passed.few net)
      ]);
      among = λ net some. elim (cases_eq net gate) [
        | inl same ↦ subst (Contains (done ++ gate ∷ [])) (sym same) (Contains-push done gate)
        | inr apart ↦ Contains-append_left done (gate ∷ []) net (passed.among net (subst (λ n. 0 < n) (level_other net apart) some))
      ];
      each = λ net on. ⊎_elim
          (λ before. ⊎_elim (λ some. inl (some_still net some)) (λ without. inr without) (passed.each net before))
          (λ same. inl (subst (λ net. 0 < level_at after net) same (subst (λ n. 0 < n) (sym level_same) some_level)))
          (Contains-push_cases done gate net on);
    }

  -- it gets none, when that of a pin isn't known, and the pin came before or is in a loop with it
  module _ (pin : ℕ) (at : Contains (pins_at netlist gate) pin) (unknown : is_known netlist levels pin ≡ false)
      (behind : Contains done pin ⊎ FlowsTo netlist.nets gate pin) where
    without : HasLevel netlist gate → ⊥
    without has = ⊎_elim
        (λ before. ⊎_elim
        (λ some. omega (arith, some, (unknown_gate netlist levels pin unknown).1))
        (λ pin_without. pin_without (pin_has netlist gate pin is has at))
        (passed.each pin before))
        (λ flows. loop_without netlist gate has (through pin gate flows (record { by_gate = is; at_pin = at })))
        behind

    IsPassed-without : IsPassed netlist (done ++ gate ∷ []) levels
    IsPassed-without = record {
      size = passed.size;
      known = passed.known;
      few = passed.few;
      among = λ net some. Contains-append_left done (gate ∷ []) net (passed.among net some);
      each = λ net on. ⊎_elim
          (λ before. passed.each net before)
          (λ same. inr (subst (λ net. HasLevel netlist net → ⊥) same without))
          (Contains-push_cases done gate net on);
    }

-- ---- the gate at a place of the order

a_gate : (gate : Bool) → 0 < cond gate 1 0 → IsTrue gate
a_gate true some = refl
a_gate false some = absurd (omega (arith, some))

at_most_once : (gate : Bool) → cond gate 1 0 ≤ 1
at_most_once true = omega arith
at_most_once false = omega arith

module _ (netlist : NetlistView) (order : List ℕ) (each : (net : ℕ) → times net order ≡ cond (is_gate_in netlist.nets net) 1 0) where
  pub order_gate : (i : ℕ) → i < length order → IsTrue (is_gate_at netlist (get_or order i 0))
  order_gate i within =
      a_gate (is_gate_in netlist.nets (get_or order i 0))
      (omega (arith, some_time (get_or order i 0) order (Contains-get_or order i 0 within), each (get_or order i 0)))

  pub order_below : (i : ℕ) → i < length order → get_or order i 0 < length netlist.nets
  order_below i within = gate_within netlist.nets (get_or order i 0) (order_gate i within)

  not_yet : (i : ℕ) → i < length order → Contains (take i order) (get_or order i 0) → ⊥
  not_yet i within (k, before, at) =
      let gate : ℕ = get_or order i 0 in
      let early : k < i = omega (arith, before, within, length-take-le i order) in
      once_from_times order (λ net. omega (arith, each net, at_most_once (is_gate_in netlist.nets net))) k i gate early within
      (sym (get_or-take i order k gate early) ∙ at ∙ get_or_default order i 0 gate within)

  module _ (levels : List ℕ) (i : ℕ) (within : i < length order) (passed : IsPassed netlist (take i order) levels) where
    pub IsPassed-known : All (λ pin. IsTrue (is_known netlist levels pin)) (pins_at netlist (get_or order i 0)) →
        IsPassed netlist (take (i + 1) order) (set levels (get_or order i 0) (level_above netlist levels (get_or order i 0)))
    IsPassed-known all =
        rw (take_more order i 0 within)
        (IsPassed-level netlist (take i order) levels passed (get_or order i 0) (order_gate i within) (not_yet i within) all)

    pub IsPassed-unknown : FollowsFlow netlist.nets order → (place : ℕ) → place < length (pins_at netlist (get_or order i 0)) →
        is_known netlist levels (get_or (pins_at netlist (get_or order i 0)) place 0) ≡ false →
        IsPassed netlist (take (i + 1) order) levels
    IsPassed-unknown follows place inside unknown =
        let gate : ℕ = get_or order i 0 in
        let pin : ℕ = get_or (pins_at netlist gate) place 0 in
        let at : Contains (pins_at netlist gate) pin = Contains-get_or (pins_at netlist gate) place 0 inside in
        rw (take_more order i 0 within)
        (IsPassed-without netlist (take i order) levels passed gate (order_gate i within) pin at unknown
        (follows i gate pin (slice_get-get_or order i 0 within) (unknown_gate netlist levels pin unknown).0 (record { by_gate = order_gate i within; at_pin = at })))
