-- Causes one behind the other lead on, and the last one leads nowhere.
use Rattle.std.proofs.Common.{◌≡◌, ℕ, zero, suc, ◌+◌, ◌≤◌, List, [], ◌∷◌, ◌++◌, length, take, slice_get, Option, None, Some, option_map, refl, ap, sym, ◌∙◌, arith, append_assoc, append-nil}
use Rattle.std.proofs.lemmas.Option.{none-some, same_Some}
use Rattle.design.specs.Circuit.{Circuit, IsCircuit}
use Rattle.causes.specs.declared.cause.Cause.{Cause}
use Rattle.causes.specs.Causes.{cause_behind, causes_of, causes_within, leads_to}
use Rattle.causes.specs.Why.{moment_of, IsWhy}
use Rattle.causes.proofs.Chain.{ticks_left, leads_back, leads_within, took_by}

module _ (circuit : Circuit) where
  head_is : (count : ℕ) (prior : List Cause) (next : Option (ℕ × ℕ)) (cause : Cause) →
      slice_get (causes_within circuit count prior next) 0 ≡ Some cause → next ≡ Some (cause.net, cause.tick)
  head_is zero prior next cause at = absurd (none-some cause at)
  head_is (suc count) prior None cause at = absurd (none-some cause at)
  head_is (suc count) prior (Some (net, tick)) cause at =
      ap (λ (c : Cause). Some (c.net, c.tick)) (same_Some (cause_behind circuit prior net tick) cause at)

  each_is : (count : ℕ) (prior : List Cause) (next : Option (ℕ × ℕ)) (place : ℕ) (cause : Cause) →
      slice_get (causes_within circuit count prior next) place ≡ Some cause →
      cause ≡ cause_behind circuit (prior ++ take place (causes_within circuit count prior next)) cause.net cause.tick
  each_is zero prior next place cause at = absurd (none-some cause at)
  each_is (suc count) prior None place cause at = absurd (none-some cause at)
  each_is (suc count) prior (Some (net, tick)) zero cause at =
      let is = same_Some (cause_behind circuit prior net tick) cause at in
      sym is ∙ (λ i. cause_behind circuit prior ((is i).net) ((is i).tick)) ∙ ap (λ causes. cause_behind circuit causes cause.net cause.tick) (sym (append-nil prior))
  each_is (suc count) prior (Some (net, tick)) (suc place) cause at =
      let behind = cause_behind circuit prior net tick in
      let rest = causes_within circuit count (prior ++ behind ∷ []) (leads_to circuit behind) in
      each_is count (prior ++ behind ∷ []) (leads_to circuit behind) place cause at
      ∙ ap (λ causes. cause_behind circuit causes cause.net cause.tick) (append_assoc prior (behind ∷ []) (take place rest))

  leads_on : (count : ℕ) (prior : List Cause) (next : Option (ℕ × ℕ)) (place : ℕ) (cause other : Cause) →
      slice_get (causes_within circuit count prior next) place ≡ Some cause →
      slice_get (causes_within circuit count prior next) (suc place) ≡ Some other →
      leads_to circuit cause ≡ Some (other.net, other.tick)
  leads_on zero prior next place cause other at after = absurd (none-some cause at)
  leads_on (suc count) prior None place cause other at after = absurd (none-some cause at)
  leads_on (suc count) prior (Some (net, tick)) zero cause other at after =
      let behind = cause_behind circuit prior net tick in
      ap (leads_to circuit) (sym (same_Some behind cause at)) ∙ head_is count (prior ++ behind ∷ []) (leads_to circuit behind) other after
  leads_on (suc count) prior (Some (net, tick)) (suc place) cause other at after =
      let behind = cause_behind circuit prior net tick in
      leads_on count (prior ++ behind ∷ []) (leads_to circuit behind) place cause other at after

  -- where there are ticks left there is a cause
  none_left : (count : ℕ) (prior : List Cause) (next : Option (ℕ × ℕ)) → ticks_left next ≤ count →
      length (causes_within circuit count prior next) ≡ 0 → next ≡ None
  none_left zero prior None enough none = refl
  none_left zero prior (Some (net, tick)) enough none = absurd (omega arith)
  none_left (suc count) prior None enough none = refl
  none_left (suc count) prior (Some (net, tick)) enough none = absurd (omega arith)

  ends_there : IsCircuit circuit → (count : ℕ) (prior : List Cause) (next : Option (ℕ × ℕ)) → ticks_left next ≤ count → (place : ℕ) (cause : Cause) →
      slice_get (causes_within circuit count prior next) place ≡ Some cause →
      length (causes_within circuit count prior next) ≡ suc place → leads_to circuit cause ≡ None
  ends_there ok zero prior next enough place cause at long = absurd (none-some cause at)
  ends_there ok (suc count) prior None enough place cause at long = absurd (none-some cause at)
  ends_there ok (suc count) prior (Some (net, tick)) enough zero cause at long =
      let behind = cause_behind circuit prior net tick in
      let back = leads_back circuit ok behind in
      let took = took_by circuit prior net tick in
      ap (leads_to circuit) (sym (same_Some behind cause at))
      ∙ none_left count (prior ++ behind ∷ []) (leads_to circuit behind) (omega (arith, back, took, enough)) (omega arith)
  ends_there ok (suc count) prior (Some (net, tick)) enough (suc place) cause at long =
      let behind = cause_behind circuit prior net tick in
      let back = leads_back circuit ok behind in
      let took = took_by circuit prior net tick in
      ends_there ok count (prior ++ behind ∷ []) (leads_to circuit behind) (omega (arith, back, took, enough)) place cause at (omega arith)

  pub is_why : IsCircuit circuit → (net tick : ℕ) → IsWhy circuit net tick (causes_of circuit net tick)
  unfolding causes_of
  is_why ok net tick = record {
    first = first_is;
    each = λ place cause at. each_is (tick + 1) [] (Some (net, tick)) place cause at;
    leads = λ place cause next at after. leads_on (tick + 1) [] (Some (net, tick)) place cause next at after;
    earlier = λ place cause next at after.
        let is = each_is (tick + 1) [] (Some (net, tick)) place cause at in
        let on = leads_on (tick + 1) [] (Some (net, tick)) place cause next at after in
        let within = leads_within circuit ok cause (next.net, next.tick) on in
        let took = took_by circuit (take place (causes_within circuit (tick + 1) [] (Some (net, tick)))) cause.net cause.tick in
        let same = ap (λ (c : Cause). c.at) is in
        omega (arith, within.1, took, same);
    ends = λ place cause at long. ends_there ok (tick + 1) [] (Some (net, tick)) (omega arith) place cause at long;
  }
    where
      first_is : option_map moment_of (slice_get (causes_of circuit net tick) 0) ≡ Some (net, tick)
      first_is = let one : tick + 1 ≡ suc tick = omega arith in rw one refl
