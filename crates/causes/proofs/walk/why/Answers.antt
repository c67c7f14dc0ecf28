use Rattle.std.proofs.Common.{arith, ◌≡◌, ◌<◌, ◌≤◌, ◌*◌, List, length, ℕ, ◌+◌, ◌++◌, Some, None, Option, set, ap, sym, ◌∙◌, subst}
use Rattle.std.proofs.lemmas.List.{length-set, length-replicate, length_push}
use Rattle.std.proofs.lemmas.List.Elements.{All-nil, All-push}
use Rattle.std.proofs.lemmas.Option.{same_Some}
use Rattle.design.proofs.CallerLemmas.{IsCircuit-from_IsDesign}
use Rattle.causes.specs.declared.cause.Cause.{Cause}
use Rattle.causes.specs.Causes.{cause_behind, causes_of, causes_within}
use Rattle.causes.specs.Marks.{AreMarked, TookBy}
use Rattle.causes.proofs.Chain.{ticks_left, no_more, one_more, leads_within, leads_back, took_by}
use Rattle.design.specs.Equations.{value_of}
use Rattle.causes.proofs.LastTicks.{since-le}
use Rattle.causes.proofs.Marked.{marked_more, unmarked, mark_below}
use Rattle.causes.proofs.SignalsUpTo.{show_earlier}
use Rattle.causes.proofs.walk.why.Goals as goal
use Rattle.causes.proofs.walk.why.Goals.{In_ok-cause}

-- the cause that is next, behind the others
is_behind : (c : In_ok-cause) →
    c.in_ok-cause.cause ≡ cause_behind c.args.design.now.circuit c.loop-next.causes.items c.in-Some.at c.in-Some.when
is_behind c =
    c.in_ok-cause.ensures c.loop-next.causes.items c.args.tick
    (subst (AreMarked (length c.args.design.now.circuit) c.loop-next.causes.items) (sym c.as_slice.ensures.value)
    c.loop-next.invariant.marked)
    c.requires.waves c.loop-next.invariant.took

-- it is explained by the tick at which the walk is, and so its net took the value
explained_then : (c : In_ok-cause) → c.in_ok-cause.cause.at ≤ c.in-Some.when
explained_then c =
    let at = ap (λ (cause : Cause). cause.at) (is_behind c) in
    let by = took_by c.args.design.now.circuit c.loop-next.causes.items c.in-Some.at c.in-Some.when in
    omega (arith, at, by)

took_then : (c : In_ok-cause) → c.in_ok-cause.cause.since ≤ c.in-Some.when
took_then c =
    let since = ap (λ (cause : Cause). cause.since) (is_behind c) in
    let by = since-le (value_of c.args.design.now.circuit c.in-Some.at) c.in-Some.when in
    omega (arith, since, by)

pub loop-next-init : goal.loop-next-init
unfolding causes_of
loop-next-init c =
    let circuit = c.args.design.now.circuit in
    let none = c.new-causes.ensures.items in
    record {
      size = ap length c.in_ok-marks.ensures.marks ∙ length-replicate (3 * length circuit) None;
      marked = unmarked (length circuit) c.in_ok-marks.marks.items c.new-causes.result.items none c.in_ok-marks.ensures.marks;
      took = subst (TookBy c.args.tick) (sym none) (All-nil (λ (cause : Cause). cause.since ≤ c.args.tick));
      inside = λ from is.
          let same = same_Some (c.args.net, c.args.tick) from is in
          subst (λ (at : ℕ × ℕ). (at.0 < length circuit) × (at.1 ≤ c.args.tick)) same (c.requires.is_net, omega arith);
      few = let no_cause = ap length none in omega (arith, no_cause);
      rest = ap (λ causes. causes ++ causes_within circuit (c.args.tick + 1) causes (Some (c.args.net, c.args.tick))) none;
    }

pub cause_behind-requires-clause-is_net : goal.cause_behind-requires-clause-is_net
cause_behind-requires-clause-is_net c = (c.loop-next.invariant.inside (c.in-Some.at, c.in-Some.when) c.in-Some.is).0

pub cause_behind-requires-clause-waves : goal.cause_behind-requires-clause-waves
cause_behind-requires-clause-waves c =
    show_earlier c.args.design.now.circuit c.args.tick c.in-Some.when c.args.waves.now c.requires.waves
    (c.loop-next.invariant.inside (c.in-Some.at, c.in-Some.when) c.in-Some.is).1

pub index_mut-requires : goal.index_mut-requires
index_mut-requires c =
    let below = (c.loop-next.invariant.inside (c.in-Some.at, c.in-Some.when) c.in-Some.is).0 in
    let within = mark_below (length c.args.design.now.circuit) c.in-Some.at c.in_ok-cause.cause.value below in
    omega (arith, within, c.mark_place.ensures, c.loop-next.invariant.size, c.loop-next.marks.ok)

pub leads_to-next-requires-clause-is_net : goal.leads_to-next-requires-clause-is_net
leads_to-next-requires-clause-is_net c =
    let is = is_behind (goal.at.leads_to-next-requires-clause-is_net c).In_ok-cause in
    let same : c.in_ok-cause.cause.net ≡ c.in-Some.at = ap (λ (cause : Cause). cause.net) is in
    let below = (c.loop-next.invariant.inside (c.in-Some.at, c.in-Some.when) c.in-Some.is).0 in
    omega (arith, same, below)

pub loop-next-smaller : goal.loop-next-smaller
loop-next-smaller c =
    let circuit = c.args.design.now.circuit in
    let took = explained_then (goal.at.loop-next-smaller c).In_ok-cause in
    let back = leads_back circuit (IsCircuit-from_IsDesign c.args.design.now c.no_marks.ensures.well_formed) c.in_ok-cause.cause in
    let left = ap ticks_left c.leads_to-next.ensures in
    let was = ap ticks_left c.in-Some.is in
    omega (arith, took, back, left, was)

pub loop-next-preserved : goal.loop-next-preserved
loop-next-preserved c =
    let circuit = c.args.design.now.circuit in
    let ok = IsCircuit-from_IsDesign c.args.design.now c.no_marks.ensures.well_formed in
    let cause = c.in_ok-cause.cause in
    let is = is_behind (goal.at.loop-next-preserved c).In_ok-cause in
    let at = c.loop-next.invariant.inside (c.in-Some.at, c.in-Some.when) c.in-Some.is in
    let took = took_then (goal.at.loop-next-preserved c).In_ok-cause in
    let explained = explained_then (goal.at.loop-next-preserved c).In_ok-cause in
    let same_net : cause.net ≡ c.in-Some.at = ap (λ (cause : Cause). cause.net) is in
    record {
      size = length-set c.loop-next.marks.items c.mark_place.result (Some cause.since) ∙ c.loop-next.invariant.size;
      marked =
          subst (λ causes. AreMarked (length circuit) causes (set c.loop-next.marks.items c.mark_place.result (Some cause.since)))
          (sym c.in_ok-push.ensures.items)
          (marked_more circuit c.loop-next.causes.items c.loop-next.marks.items c.in-Some.at c.in-Some.when cause c.mark_place.result
          c.loop-next.invariant.marked c.loop-next.invariant.size at.0 is c.mark_place.ensures);
      took =
          subst (TookBy c.args.tick) (sym c.in_ok-push.ensures.items)
          (All-push (λ (cause : Cause). cause.since ≤ c.args.tick) c.loop-next.causes.items cause c.loop-next.invariant.took (omega (arith, took, at.1)));
      inside = λ next next_is.
          let within = leads_within circuit ok cause next (sym c.leads_to-next.ensures ∙ next_is) in
          (within.0 (omega (arith, same_net, at.0)), omega (arith, within.1, explained, at.1));
      few =
          let more = ap length c.in_ok-push.ensures.items ∙ length_push c.loop-next.causes.items cause in
          let was = c.loop-next.invariant.few in
          let here = ap ticks_left c.in-Some.is in
          let back = leads_back circuit ok cause in
          let left = ap ticks_left c.leads_to-next.ensures in
          omega (arith, more, was, here, back, left, explained);
      rest =
          ap (λ causes. causes ++ causes_within circuit (ticks_left c.leads_to-next.result) causes c.leads_to-next.result) c.in_ok-push.ensures.items
          ∙ one_more circuit ok c.loop-next.causes.items c.in-Some.at c.in-Some.when cause c.leads_to-next.result is c.leads_to-next.ensures
          ∙ was c.loop-next.causes.items c.loop-next.next c.in-Some.at c.in-Some.when c.in-Some.is
          ∙ c.loop-next.invariant.rest;
    }
  where
    was : (causes : List Cause) (next : Option (ℕ × ℕ)) (net tick : ℕ) → next ≡ Some (net, tick) →
        causes ++ causes_within c.args.design.now.circuit (tick + 1) causes (Some (net, tick))
        ≡ causes ++ causes_within c.args.design.now.circuit (ticks_left next) causes next
    was causes next net tick e = λ i. causes ++ causes_within c.args.design.now.circuit (ticks_left (sym e i)) causes (sym e i)

pub returns-clause-causes : goal.returns-clause-causes
returns-clause-causes c = sym (no_more c.args.design.now.circuit c.loop-next.causes.items c.loop-next.next c.in_default.is) ∙ c.loop-next.invariant.rest
