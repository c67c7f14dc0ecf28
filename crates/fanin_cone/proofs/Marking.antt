-- Marks that come one by one.
use Rattle.std.proofs.Common.{◌≡◌, ℕ, zero, suc, replicate, ◌+◌, ◌==◌, ◌<◌, ◌||◌, not, Bool, true, false, cond, List, [], ◌∷◌, ◌++◌, length, get_or, set, take, refl, sym, ap, ◌∙◌, arith, All, Contains, ◌⊎◌, inl, inr, IsTrue, length-set}
use Rattle.std.specs.List.{list_any, filter}
use Rattle.std.proofs.lemmas.Bool.{eqb-true}
use Rattle.std.proofs.lemmas.Bool.Decides.{nat_tests}
use Rattle.std.proofs.lemmas.List.{append-nil, append_assoc, take_more, length_push, get_or-set_same, get_or-set_other}
use Rattle.std.proofs.lemmas.List.Elements.{All-append, All-filter, All-from_get_or, filter-append, Contains-append_left, Contains-append_right, Contains-get_or}
use Rattle.std.proofs.lemmas.List.Folds.{list_any_more}
use Rattle.std.proofs.lemmas.List.Sums.{sum_by-set}
use Rattle.netlist.specs.Repeats.{distinct}
use Rattle.netlist.proofs.CallerLemmas.{distinct_push, All-distinct}
use Rattle.fanin_cone.specs.Walk.{is_marked, unmarked, Marks}
use Rattle.fanin_cone.proofs.Listed.{contains_from_any, any_from_contains, list_any-filter, list_any-distinct}

apart : (m n : ℕ) → (m == n) ≡ false → m ≡ n → ⊥
apart m n e = grind (arith, nat_tests)

-- a mark that is there at the new number, and elsewhere as it was
more_marks : (old among same mark : Bool) → (same ≡ true → mark ≡ true) → (same ≡ false → mark ≡ (old || among)) →
    mark ≡ (old || (among || same))
more_marks true among true mark new kept = new refl
more_marks true among false mark new kept = kept refl
more_marks false true true mark new kept = new refl
more_marks false true false mark new kept = kept refl
more_marks false false true mark new kept = new refl
more_marks false false false mark new kept = kept refl

-- the number at a place, after those before it
module _ (nets : List ℕ) (i : ℕ) (inside : i < length nets) (old marks : List Bool) (before list : List ℕ)
    (below : get_or nets i 0 < length marks) (so_far : Marks (take i nets) old marks before list) where
  abbrev this : ℕ
  this = get_or nets i 0

  abbrev is_new : ℕ → Bool
  is_new net = not (is_marked old net)

  -- the list of new numbers grows by one that has no mark yet
  more : distinct (filter is_new (take (i + 1) nets))
      ≡ cond (is_marked marks this) (distinct (filter is_new (take i nets))) (distinct (filter is_new (take i nets)) ++ this ∷ [])
  more =
      ap (λ nets. distinct (filter is_new nets)) (take_more nets i 0 inside)
      ∙ ap distinct (filter-append is_new (take i nets) (this ∷ []))
      ∙ go (is_marked old this) refl
    where
      go : (was : Bool) → is_marked old this ≡ was → distinct (filter is_new (take i nets) ++ cond (not was) (this ∷ []) [])
          ≡ cond (is_marked marks this) (distinct (filter is_new (take i nets))) (distinct (filter is_new (take i nets)) ++ this ∷ [])
      go true e = rw (so_far.marks this, e, append-nil) refl
      go false e =
          distinct_push (filter is_new (take i nets)) this
          ∙ ap (λ came. cond came (distinct (filter is_new (take i nets))) (distinct (filter is_new (take i nets)) ++ this ∷ []))
          (list_any-filter is_new this (ap not e) (take i nets) ∙ ap (λ was. was || list_any (λ m. this == m) (take i nets)) (sym e) ∙ sym (so_far.marks this))

  pub Marks-marked : is_marked marks this ≡ true → Marks (take (i + 1) nets) old marks before list
  Marks-marked came = record {
    size = so_far.size;
    marks = λ net.
        more_marks (is_marked old net) (list_any (λ m. net == m) (take i nets)) (net == this) (is_marked marks net)
        (λ same. ap (is_marked marks) (eqb-true net this same) ∙ came) (λ other. so_far.marks net)
        ∙ ap (λ among. is_marked old net || among) (sym (list_any_more (λ m. net == m) nets i 0 inside));
    list = so_far.list ∙ ap (λ new. before ++ new) (sym (more ∙ rw came refl));
    count = so_far.count;
  }

  pub Marks-new : is_marked marks this ≡ false → Marks (take (i + 1) nets) old (set marks this true) before (list ++ this ∷ [])
  Marks-new came = record {
    size = length-set marks this true ∙ so_far.size;
    marks = λ net.
        more_marks (is_marked old net) (list_any (λ m. net == m) (take i nets)) (net == this) (is_marked (set marks this true) net)
        (λ same. ap (is_marked (set marks this true)) (eqb-true net this same) ∙ get_or-set_same marks this true false below)
        (λ other. get_or-set_other marks this net true false (apart net this other) ∙ so_far.marks net)
        ∙ ap (λ among. is_marked old net || among) (sym (list_any_more (λ m. net == m) nets i 0 inside));
    list =
        ap (λ l. l ++ this ∷ []) so_far.list ∙ append_assoc before (distinct (filter is_new (take i nets))) (this ∷ [])
        ∙ ap (λ new. before ++ new) (sym (more ∙ rw came refl));
    count =
        let one : unmarked (set marks this true) + 1 ≡ unmarked marks + 0 =
        ap (λ mark. unmarked (set marks this true) + cond (not mark) 1 0) (sym came) ∙ sum_by-set (λ mark. cond (not mark) 1 0) marks this true false below in
        omega (arith, length_push list this, so_far.count);
  }

-- what marks tell, once these nets have theirs
module _ {nets : List ℕ} {old new : List Bool} {before after : List ℕ} (marked : Marks nets old new before after) where
  pub mark_kept : (net : ℕ) → IsTrue (is_marked old net) → IsTrue (is_marked new net)
  mark_kept net was = marked.marks net ∙ ap (λ was. was || list_any (λ m. net == m) nets) was

  mark_of : (net : ℕ) → Contains nets net → IsTrue (is_marked new net)
  mark_of net at = marked.marks net ∙ ap (λ among. is_marked old net || among) (any_from_contains nets net at) ∙ or_true (is_marked old net)
    where
      or_true : (b : Bool) → (b || true) ≡ true
      or_true true = refl
      or_true false = refl

  pub All-marked : All (λ net. IsTrue (is_marked new net)) nets
  All-marked = All-from_get_or (λ net. IsTrue (is_marked new net)) nets 0 (λ i below. mark_of (get_or nets i 0) (Contains-get_or nets i 0 below))

  -- a marked net was marked before, or it is one of these
  pub mark_cases : (net : ℕ) → IsTrue (is_marked new net) → IsTrue (is_marked old net) ⊎ ((is_marked old net ≡ false) × Contains nets net)
  mark_cases net is = go (is_marked old net) refl (sym (marked.marks net) ∙ is)
    where
      go : (was : Bool) → is_marked old net ≡ was → (was || list_any (λ m. net == m) nets) ≡ true →
          (was ≡ true) ⊎ ((was ≡ false) × Contains nets net)
      go true e among = inl refl
      go false e among = inr (refl, contains_from_any nets net among)

  pub All-listed : (P : ℕ → Type 0) → All P before → All P nets → All P after
  All-listed P earlier these =
      rw marked.list (All-append P before _ earlier (All-distinct P _ (All-filter (λ net. not (is_marked old net)) P nets these)))

  pub listed_before : (net : ℕ) → Contains before net → Contains after net
  listed_before net at = rw marked.list (Contains-append_left before _ net at)

  pub listed_new : (net : ℕ) → is_marked old net ≡ false → Contains nets net → Contains after net
  listed_new net was at =
      let new : ℕ → Bool = λ net. not (is_marked old net) in
      rw marked.list (Contains-append_right before _ net (contains_from_any _ net
      (list_any-distinct (filter new nets) net ∙ list_any-filter new net (ap not was) nets ∙ any_from_contains nets net at)))

-- at first nothing is marked
pub no_mark : (nets net : ℕ) → is_marked (replicate nets false) net ≡ false
no_mark zero net = refl
no_mark (suc nets) zero = refl
no_mark (suc nets) (suc net) = no_mark nets net
