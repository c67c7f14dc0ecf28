-- Marks of the nets and values that causes have.
use Rattle.std.proofs.Common.{◌≡◌, ◌≢◌, ℕ, ◌*◌, ◌<◌, ◌≤◌, ◌==◌, ◌&&◌, Bool, true, false, cond, List, [], ◌∷◌, ◌++◌, length, get_or, set, replicate, Option, None, Some, refl, ap, sym, ◌∙◌, arith, subst, true≢false}
use Rattle.std.proofs.lemmas.Bool.{eqb-true, eq-eqb, and_parts}
use Rattle.std.proofs.lemmas.List.{get_or-replicate, get_or-set_same, get_or-set_other}
use Rattle.std.proofs.lemmas.Option.{same_Some}
use Rattle.std.proofs.lemmas.List.Elements.{All-head, All-tail}
use Rattle.logic3.specs.declared.value.Value.{Value}
use Rattle.logic3.specs.declared.value.Value.TheVariants.{Zero, One, Unknown}
use Rattle.logic3.specs.Value.{is_same}
use Rattle.logic3.proofs.CallerLemmas.{is_same-true}
use Rattle.design.specs.Circuit.{Circuit}
use Rattle.design.specs.Equations.{value_of}
use Rattle.causes.specs.declared.cause.Cause.{Cause}
use Rattle.causes.specs.declared.cause.Reason.{Reason}
use Rattle.causes.specs.Deciding.{since}
use Rattle.causes.specs.Swings.{unless_swing}
use Rattle.causes.specs.Reasons.{reason_of}
use Rattle.causes.specs.Causes.{cause_behind, cause_from, explained_at, taken_again}
use Rattle.causes.specs.Marks.{value_number, mark_place, AreMarked, TookBy}

value_number-below : (v : Value) → value_number v < 3
value_number-below Zero = omega arith
value_number-below One = omega arith
value_number-below Unknown = omega arith

-- each mark has a place
pub mark_below : (nets net : ℕ) (value : Value) → net < nets → mark_place net value < 3 * nets
mark_below nets net value below = let few = value_number-below value in omega (arith, few, below)

value_number-same : (v w : Value) → value_number v ≡ value_number w → is_same v w ≡ true
value_number-same Zero Zero e = refl
value_number-same One One e = refl
value_number-same Unknown Unknown e = refl
value_number-same Zero One e = absurd (omega (arith, e))
value_number-same Zero Unknown e = absurd (omega (arith, e))
value_number-same One Zero e = absurd (omega (arith, e))
value_number-same One Unknown e = absurd (omega (arith, e))
value_number-same Unknown Zero e = absurd (omega (arith, e))
value_number-same Unknown One e = absurd (omega (arith, e))

-- of its own
same_mark : (n m : ℕ) (v w : Value) → mark_place n v ≡ mark_place m w → (n ≡ m) × (is_same v w ≡ true)
same_mark n m v w e =
    let a = value_number-below v in
    let b = value_number-below w in
    (omega (arith, a, b, e), value_number-same v w (omega (arith, a, b, e)))

-- the last of some causes and one more
taken_push : (before : Option ℕ) (causes : List Cause) (cause : Cause) (net : ℕ) (value : Value) →
    taken_again before (causes ++ cause ∷ []) net value
    ≡ cond ((cause.net == net) && is_same cause.value value) (Some cause.since) (taken_again before causes net value)
taken_push before [] cause net value = refl
taken_push before (first ∷ causes) cause net value =
    taken_push (cond ((first.net == net) && is_same first.value value) (Some first.since) before) causes cause net value

-- one cause more
one_marked : (nets : ℕ) (causes : List Cause) (marks : List (Option ℕ)) (cause : Cause) → AreMarked nets causes marks →
    length marks ≡ 3 * nets → cause.net < nets →
    AreMarked nets (causes ++ cause ∷ []) (set marks (mark_place cause.net cause.value) (Some cause.since))
one_marked nets causes marks cause marked size inside net value below =
    go ((cause.net == net) && is_same cause.value value) refl ∙ sym (taken_push None causes cause net value)
  where
    go : (here : Bool) → ((cause.net == net) && is_same cause.value value) ≡ here →
        get_or (set marks (mark_place cause.net cause.value) (Some cause.since)) (mark_place net value) None
        ≡ cond ((cause.net == net) && is_same cause.value value) (Some cause.since) (taken_again None causes net value)
    go true e =
        let parts = and_parts (cause.net == net) (is_same cause.value value) e in
        let same_net : cause.net ≡ net = eqb-true cause.net net parts.0 in
        let same_value : cause.value ≡ value = is_same-true cause.value value parts.1 in
        let place : mark_place cause.net cause.value ≡ mark_place net value = λ i. mark_place (same_net i) (same_value i) in
        let there = get_or-set_same marks (mark_place cause.net cause.value) (Some cause.since) None (let m = mark_below nets cause.net cause.value inside in omega (arith, m, size)) in
        ap (λ k. get_or (set marks (mark_place cause.net cause.value) (Some cause.since)) k None) (sym place) ∙ there
        ∙ (λ i. cond (sym e i) (Some cause.since) (taken_again None causes net value))
    go false e =
        let apart : mark_place net value ≢ mark_place cause.net cause.value = λ same.
        let parts = same_mark cause.net net cause.value value (sym same) in
        true≢false (sym ((λ i. (eq-eqb cause.net net parts.0 i) && (parts.1 i))) ∙ e) in
        let there = get_or-set_other marks (mark_place cause.net cause.value) (mark_place net value) (Some cause.since) None apart in
        there ∙ marked net value below ∙ (λ i. cond (sym e i) (Some cause.since) (taken_again None causes net value))

-- the cause behind those that are marked
pub marked_cause : (circuit : Circuit) (causes : List Cause) (marks : List (Option ℕ)) (net tick from at : ℕ) (value : Value) (again : Option ℕ) (reason : Reason) →
    AreMarked (length circuit) causes marks → net < length circuit → value ≡ value_of circuit net tick → from ≡ since (value_of circuit net) tick →
    again ≡ get_or marks (mark_place net value) None → at ≡ explained_at tick from again →
    reason ≡ unless_swing (value_of circuit net) at again (reason_of circuit net at) →
    record { net = net; tick = tick; value = value; since = from; at = at; reason = reason } ≡ cause_behind circuit causes net tick
marked_cause circuit causes marks net tick from at value again reason marked below value_is from_is again_is at_is reason_is =
    let marked_is : again ≡ taken_again None causes net (value_of circuit net tick) =
    again_is ∙ ap (λ v. get_or marks (mark_place net v) None) value_is ∙ marked net (value_of circuit net tick) below in
    let is = reason_is ∙ ap (λ (n : ℕ). unless_swing (value_of circuit net) n again (reason_of circuit net n)) at_is in
    let here : record { net = net; tick = tick; value = value; since = from; at = at; reason = reason } ≡ cause_from circuit net tick from again =
    λ i. record { net = net; tick = tick; value = value_is i; since = from; at = at_is i; reason = is i } in
    here ∙ (λ i. cause_from circuit net tick (from_is i) (marked_is i))

-- a cause is marked
pub marked_more : (circuit : Circuit) (causes : List Cause) (marks : List (Option ℕ)) (net tick : ℕ) (cause : Cause) (place : ℕ) →
    AreMarked (length circuit) causes marks → length marks ≡ 3 * length circuit → net < length circuit →
    cause ≡ cause_behind circuit causes net tick → place ≡ mark_place net cause.value →
    AreMarked (length circuit) (causes ++ cause ∷ []) (set marks place (Some cause.since))
marked_more circuit causes marks net tick cause place marked size below is place_is =
    let same_net : cause.net ≡ net = ap (λ (c : Cause). c.net) is in
    subst (λ marks. AreMarked (length circuit) (causes ++ cause ∷ []) marks)
    (λ i. set marks ((ap (λ n. mark_place n cause.value) same_net ∙ sym place_is) i) (Some cause.since))
    (one_marked (length circuit) causes marks cause marked size (let same = same_net in omega (arith, same, below)))

-- marks before any cause
pub unmarked : (nets : ℕ) (marks : List (Option ℕ)) (causes : List Cause) → causes ≡ [] → marks ≡ replicate (3 * nets) None → AreMarked nets causes marks
unmarked nets marks causes none are =
    subst (λ cs. AreMarked nets cs marks) (sym none) (λ net value below.
    ap (λ ms. get_or ms (mark_place net value) None) are
    ∙ get_or-replicate (3 * nets) (mark_place net value) None None (mark_below nets net value below))

-- a net took its values by a tick, if all nets did
pub taken_by : (top : ℕ) (before : Option ℕ) (causes : List Cause) (net : ℕ) (value : Value) (again : ℕ) →
    ((tick : ℕ) → before ≡ Some tick → tick ≤ top) → TookBy top causes → taken_again before causes net value ≡ Some again → again ≤ top
taken_by top before [] net value again early took is = early again is
taken_by top before (cause ∷ causes) net value again early took is =
    taken_by top (cond ((cause.net == net) && is_same cause.value value) (Some cause.since) before) causes net value again
    (λ tick e. go ((cause.net == net) && is_same cause.value value) tick e) (All-tail (λ (c : Cause). c.since ≤ top) cause causes took) is
  where
    go : (here : Bool) (tick : ℕ) → cond here (Some cause.since) before ≡ Some tick → tick ≤ top
    go true tick e =
        let same = same_Some cause.since tick e in
        let first = All-head (λ (c : Cause). c.since ≤ top) cause causes took in omega (arith, same, first)
    go false tick e = early tick e
