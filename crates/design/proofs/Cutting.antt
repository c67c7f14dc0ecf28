-- How an order is cut up into segments.
use Rattle.std.proofs.Common.{◌≡◌, ℕ, zero, suc, ◌+◌, ◌<◌, ◌≤◌, Bool, true, false, true≢false, List, [], ◌∷◌, ◌++◌, length, get_or, slice_get, refl, sym, ap, ◌∙◌, subst, arith, All, ⊎_elim}
use Rattle.std.proofs.lemmas.Bool.{cases_lt}
use Rattle.std.proofs.lemmas.List.{length_push, get_or_push, get_or_append_left, get_or_default}
use Rattle.std.proofs.lemmas.Option.{slice_get_within, slice_get-get_or, same_Some}
use Rattle.std.proofs.Math.ListN.{get_or-eq_default}
use Rattle.design.specs.declared.segments.Segment.{Segment}
use Rattle.design.specs.Circuit.{Circuit}
use Rattle.design.specs.Flow.{IsGate, Feeds}
use Rattle.design.specs.Segments.{Takes, StandsBefore, IsSegment, LieBetween, past_of, IsPast, IsAhead, IsLoop, IsStraight}

-- ---- one place more of a loop

pub loop_closed : (ahead : List ℕ) (begin at end now : ℕ) → end ≤ now → past_of ahead at ≤ now →
    ((place : ℕ) → begin ≤ place → place < at → past_of ahead place ≤ end) →
    (place : ℕ) → begin ≤ place → place < at + 1 → past_of ahead place ≤ now
loop_closed ahead begin at end now rises here closed place from to = ⊎_elim
    (λ early. let c = closed place from early in omega (arith, c, rises))
    (λ late. let same : place ≡ at = omega (arith, to, late) in subst (λ p. past_of ahead p ≤ now) (sym same) here)
    (cases_lt place at)

pub loop_whole : (ahead : List ℕ) (begin at end now : ℕ) → begin ≤ at → at < end → now ≤ past_of ahead at →
    ((cut : ℕ) → begin < cut → cut < end → (place : ℕ) × (begin ≤ place) × (place < cut) × (cut < past_of ahead place)) →
    (cut : ℕ) → begin < cut → cut < now → (place : ℕ) × (begin ≤ place) × (place < cut) × (cut < past_of ahead place)
loop_whole ahead begin at end now from before far whole cut after to = ⊎_elim
    (λ early. whole cut after early)
    (λ late. (at, from, omega (arith, before, late), omega (arith, to, far)))
    (cases_lt cut end)

-- ---- one place more of what is ahead

pub IsAhead-push : (circuit : Circuit) (order past ahead : List ℕ) (count x : ℕ) → count < length order → IsPast order (length order) past →
    IsAhead circuit order count ahead →
    ((source : ℕ) → IsGate circuit source → Feeds circuit source (get_or order count 0) → past_of past source ≤ x) →
    (0 < x → (source : ℕ) × IsGate circuit source × Feeds circuit source (get_or order count 0) × (past_of past source ≡ x)) →
    IsAhead circuit order (count + 1) (ahead ++ x ∷ [])
IsAhead-push circuit order past ahead count x below is_past so_far most some = record {
  size = length_push ahead x ∙ ap (λ n. n + 1) so_far.size;
  each = λ place other within takes. ⊎_elim
      (λ early. let e = get_or_append_left ahead (x ∷ []) 0 place (let s = so_far.size in omega (arith, s, early)) in
      let was = so_far.each place other early takes in omega (arith, e, was))
      (λ late.
      let same : place ≡ count = omega (arith, within, late) in
      let here : past_of (ahead ++ x ∷ []) place ≡ x = get_or_push ahead x 0 place (so_far.size ∙ sym same) in
      let net : get_or order count 0 ≡ takes.gate =
      same_Some (get_or order count 0) takes.gate (sym (slice_get-get_or order count 0 below) ∙ ap (slice_get order) (sym same) ∙ takes.gate_at) in
      let least = most takes.source takes.source_gate (subst (Feeds circuit takes.source) (sym net) takes.feeds) in
      let stands = is_past.each other takes.source (slice_get_within order other takes.source takes.source_at) takes.source_at in
      omega (arith, here, least, stands))
      (cases_lt place count);
  there = λ place other e. ⊎_elim
      (λ early. so_far.there place other
      (sym (get_or_append_left ahead (x ∷ []) 0 place (let s = so_far.size in omega (arith, s, early))) ∙ e))
      (λ late. ⊎_elim
      (λ before.
      let same : place ≡ count = omega (arith, before, late) in
      let here : past_of (ahead ++ x ∷ []) place ≡ x = get_or_push ahead x 0 place (so_far.size ∙ sym same) in
      let found = some (omega (arith, here, e)) in
      record {
        gate = get_or order count 0;
        source = found.0;
        gate_at = ap (slice_get order) same ∙ slice_get-get_or order count 0 below;
        source_at = is_past.there other found.0 (found.3 ∙ sym here ∙ e);
        source_gate = found.1;
        feeds = found.2;
      })
      (λ past_all.
      let none = get_or-eq_default (ahead ++ x ∷ []) 0 {n = place} (let s = so_far.size in let l = length_push ahead x in omega (arith, s, l, past_all)) in
      absurd (omega (arith, none, e)))
      (cases_lt place (count + 1)))
      (cases_lt place count);
}

pub ahead_within : (circuit : Circuit) (order ahead : List ℕ) → IsAhead circuit order (length order) ahead → All (λ end. end ≤ length ahead) ahead
ahead_within circuit order ahead is place d below = go (past_of ahead place) refl
  where
    go : (n : ℕ) → past_of ahead place ≡ n → get_or ahead place d ≤ length ahead
    go zero e = let same = get_or_default ahead place d 0 below in omega (arith, same, e)
    go (suc other) e =
        let one : past_of ahead place ≡ other + 1 = omega (arith, e) in
        let takes = is.there place other one in
        let within = slice_get_within order other takes.source takes.source_at in
        let same = get_or_default ahead place d 0 below in
        let size = is.size in
        omega (arith, same, one, within, size)

-- ---- a segment

stands_before : (circuit : Circuit) (order ahead : List ℕ) (place : ℕ) → IsAhead circuit order (length order) ahead →
    place < past_of ahead place → StandsBefore circuit order place
stands_before circuit order ahead place is far = go (past_of ahead place) refl
  where
    go : (n : ℕ) → past_of ahead place ≡ n → StandsBefore circuit order place
    go zero e = absurd (omega (arith, e, far))
    go (suc other) e =
        let one : past_of ahead place ≡ other + 1 = omega (arith, e) in
        (other, omega (arith, one, far), is.there place other one)

pub segment_is : (circuit : Circuit) (order ahead : List ℕ) (begin : ℕ) (segment : Segment) → IsAhead circuit order (length order) ahead →
    (segment.loops ≡ true → (begin < past_of ahead begin) × IsLoop ahead begin segment.end) →
    (segment.loops ≡ false → (begin < segment.end) × IsStraight ahead begin segment.end) →
    IsSegment circuit order begin segment
segment_is circuit order ahead begin segment is loop straight = go segment.loops refl
  where
    go : (b : Bool) → segment.loops ≡ b → IsSegment circuit order begin segment
    go true e = record {
      some_net = (loop e).1.some_net;
      within = let w = (loop e).1.within in let s = is.size in omega (arith, w, s);
      inside = λ place other from to up takes. (
        e,
        (
            let w = (loop e).1.within in
            let s = is.size in
            let c = (loop e).1.closed place from to in
            let t = is.each place other (omega (arith, to, w, s)) takes in
            omega (arith, c, t)),
      );
      first = λ _. stands_before circuit order ahead begin is (loop e).0;
      whole = λ _ cut after before.
          let at = (loop e).1.whole cut after before in
          let stands = later circuit order ahead at.0 cut is at.3 in
          (at.0, stands.0, at.1, at.2, stands.1, stands.2);
      ends = λ f. absurd (true≢false (sym e ∙ f));
    }
      where
        later : (circuit : Circuit) (order ahead : List ℕ) (place cut : ℕ) → IsAhead circuit order (length order) ahead → cut < past_of ahead place →
            (other : ℕ) × (cut ≤ other) × Takes circuit order place other
        later circuit order ahead place cut is far = on (past_of ahead place) refl
          where
            on : (n : ℕ) → past_of ahead place ≡ n → (other : ℕ) × (cut ≤ other) × Takes circuit order place other
            on zero e = absurd (omega (arith, e, far))
            on (suc other) e =
                let one : past_of ahead place ≡ other + 1 = omega (arith, e) in
                (other, omega (arith, one, far), is.there place other one)
    go false e = record {
      some_net = (straight e).0;
      within = let w = (straight e).1.within in let s = is.size in omega (arith, w, s);
      inside = λ place other from to up takes.
          let w = (straight e).1.within in
          let s = is.size in
          let c = (straight e).1.straight place from to in
          let t = is.each place other (omega (arith, to, w, s)) takes in
          absurd (omega (arith, c, t, up));
      first = λ t. absurd (true≢false (sym t ∙ e));
      whole = λ t. absurd (true≢false (sym t ∙ e));
      ends = λ _ below. stands_before circuit order ahead segment.end is
          ((straight e).1.ends (let s = is.size in omega (arith, s, below)));
    }

pub LieBetween-push : (circuit : Circuit) (order : List ℕ) (begin : ℕ) (segments : List Segment) (end : ℕ) (segment : Segment) →
    LieBetween circuit order begin segments end → IsSegment circuit order end segment →
    LieBetween circuit order begin (segments ++ segment ∷ []) segment.end
LieBetween-push circuit order begin [] end segment lie next = (subst (λ b. IsSegment circuit order b segment) (sym lie) next, refl)
LieBetween-push circuit order begin (first ∷ segments) end segment lie next =
    (lie.0, LieBetween-push circuit order first.end segments end segment lie.1 next)
