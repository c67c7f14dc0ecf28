-- Counts of messages, and how many of some numbers pass a test.
use Rattle.std.proofs.Common.{◌≡◌, ℕ, suc, ◌+◌, ◌<◌, ◌≤◌, Bool, true, false, cond, nat_lt, List, [], ◌∷◌, ◌++◌, length, count_by, All, refl, ap, sym, subst, ◌∙◌, arith}
use Rattle.std.proofs.lemmas.Bool.{ltb-true, ltb-false}
use Rattle.std.proofs.lemmas.List.Elements.{All-nil, All-cons, All-head, All-tail}
use Rattle.std.proofs.lemmas.List.Sums.{sum_by-cons}
use Rattle.cmb_channels.specs.Logs.{two_to_64, count_after, past}

-- ---- counts that go round

pub after_within : (count more : ℕ) → count_after count more < two_to_64
after_within count more = omega arith

pub past_after : (from count more : ℕ) → from < two_to_64 → past from count + more < two_to_64 →
    past from (count_after count more) ≡ past from count + more
past_after from count more below few = omega arith

pub past_cut : (from more count : ℕ) → from < two_to_64 → more ≤ past from count → past (count_after from more) count + more ≡ past from count
past_cut from more count below taken = omega arith

-- ---- tests

pub same_lt : (a b m n : ℕ) → (a < b → m < n) → (m < n → a < b) → nat_lt a b ≡ nat_lt m n
same_lt a b m n to from = go (nat_lt a b) (nat_lt m n) refl refl
  where
    go : (one other : Bool) → nat_lt a b ≡ one → nat_lt m n ≡ other → one ≡ other
    go true true f g = refl
    go true false f g = absurd (omega (arith, to (ltb-true a b f), ltb-false m n g))
    go false true f g = absurd (omega (arith, from (ltb-true m n g), ltb-false a b f))
    go false false f g = refl

-- ---- how many pass

pub count_cons : (P : ℕ → Bool) (x : ℕ) (xs : List ℕ) → count_by P (x ∷ xs) ≡ cond (P x) 1 0 + count_by P xs
count_cons P x xs = sum_by-cons (λ y. cond (P y) 1 0) x xs

pub all_counted : (P : ℕ → Bool) (xs : List ℕ) → All (λ x. P x ≡ true) xs → count_by P xs ≡ length xs
all_counted P [] all = refl
all_counted P (x ∷ xs) all =
    let rest = all_counted P xs (All-tail (λ y. P y ≡ true) x xs all) in
    count_cons P x xs ∙ ap (λ b. cond b 1 0 + count_by P xs) (All-head (λ y. P y ≡ true) x xs all) ∙ omega (arith, rest)

pub not_counted : (P : ℕ → Bool) (xs : List ℕ) → All (λ x. P x ≡ false) xs → count_by P xs ≡ 0
not_counted P [] all = refl
not_counted P (x ∷ xs) all =
    let rest = not_counted P xs (All-tail (λ y. P y ≡ false) x xs all) in
    count_cons P x xs ∙ ap (λ b. cond b 1 0 + count_by P xs) (All-head (λ y. P y ≡ false) x xs all) ∙ omega (arith, rest)

pub none_counted : (P : ℕ → Bool) (xs : List ℕ) → count_by P xs ≡ 0 → All (λ x. P x ≡ false) xs
none_counted P [] e = All-nil (λ x. P x ≡ false)
none_counted P (x ∷ xs) e = go (P x) refl (none_counted P xs)
  where
    go : (b : Bool) → P x ≡ b → (count_by P xs ≡ 0 → All (λ y. P y ≡ false) xs) → All (λ y. P y ≡ false) (x ∷ xs)
    go true is later = absurd (omega (arith, e, count_cons P x xs ∙ ap (λ b. cond b 1 0 + count_by P xs) is))
    go false is later = All-cons (λ y. P y ≡ false) x xs is (later (omega (arith, e, count_cons P x xs)))

pub same_count : (P Q : ℕ → Bool) (xs : List ℕ) → All (λ x. P x ≡ Q x) xs → count_by P xs ≡ count_by Q xs
same_count P Q [] all = refl
same_count P Q (x ∷ xs) all =
    count_cons P x xs
    ∙ ap (λ b. cond b 1 0 + count_by P xs) (All-head (λ y. P y ≡ Q y) x xs all)
    ∙ ap (λ n. cond (Q x) 1 0 + n) (same_count P Q xs (All-tail (λ y. P y ≡ Q y) x xs all))
    ∙ sym (count_cons Q x xs)

-- ---- one number replaced

-- two lists of numbers are the same but at one place
pub record IsReplaced (old new : ℕ) (xs ys : List ℕ) : Type 0 where
  pub before : List ℕ
  pub after : List ℕ
  pub was : xs ≡ before ++ old ∷ after
  pub is : ys ≡ before ++ new ∷ after

pub replaced-here : (old new : ℕ) (xs : List ℕ) → IsReplaced old new (old ∷ xs) (new ∷ xs)
replaced-here old new xs = record { before = []; after = xs; was = refl; is = refl }

pub replaced-later : (old new x : ℕ) (xs ys : List ℕ) → IsReplaced old new xs ys → IsReplaced old new (x ∷ xs) (x ∷ ys)
replaced-later old new x xs ys replaced = record {
  before = x ∷ replaced.before;
  after = replaced.after;
  was = ap (λ zs. x ∷ zs) replaced.was;
  is = ap (λ zs. x ∷ zs) replaced.is;
}

module _ (P : ℕ → Type 0) where
  among : (before : List ℕ) (x : ℕ) (after : List ℕ) → All P (before ++ x ∷ after) → P x
  among [] x after all = All-head P x after all
  among (y ∷ before) x after all = among before x after (All-tail P y (before ++ x ∷ after) all)

  swapped : (before : List ℕ) (old new : ℕ) (after : List ℕ) → All P (before ++ old ∷ after) → P new → All P (before ++ new ∷ after)
  swapped [] old new after all holds = All-cons P new after holds (All-tail P old after all)
  swapped (y ∷ before) old new after all holds =
      All-cons P y (before ++ new ∷ after) (All-head P y (before ++ old ∷ after) all)
      (swapped before old new after (All-tail P y (before ++ old ∷ after) all) holds)

  pub replaced-held : (old new : ℕ) (xs ys : List ℕ) → IsReplaced old new xs ys → All P xs → P old
  replaced-held old new xs ys replaced all = among replaced.before old replaced.after (subst (All P) replaced.was all)

  pub replaced-all : (old new : ℕ) (xs ys : List ℕ) → IsReplaced old new xs ys → All P xs → P new → All P ys
  replaced-all old new xs ys replaced all holds =
      subst (All P) (sym replaced.is) (swapped replaced.before old new replaced.after (subst (All P) replaced.was all) holds)

counted-among : (P : ℕ → Bool) (before : List ℕ) (x : ℕ) (after : List ℕ) → P x ≡ true → 0 < count_by P (before ++ x ∷ after)
counted-among P [] x after e = omega (arith, count_cons P x after ∙ ap (λ b. cond b 1 0 + count_by P after) e)
counted-among P (y ∷ before) x after e =
    omega (arith, counted-among P before x after e, count_cons P y (before ++ x ∷ after))

pub held-counted : (P : ℕ → Bool) (old new : ℕ) (xs ys : List ℕ) → IsReplaced old new xs ys → P old ≡ true → 0 < count_by P xs
held-counted P old new xs ys replaced e =
    subst (λ zs. 0 < count_by P zs) (sym replaced.was) (counted-among P replaced.before old replaced.after e)

swapped-count : (P : ℕ → Bool) (before : List ℕ) (old new : ℕ) (after : List ℕ) →
    count_by P (before ++ new ∷ after) + cond (P old) 1 0 ≡ count_by P (before ++ old ∷ after) + cond (P new) 1 0
swapped-count P [] old new after = omega (arith, count_cons P old after, count_cons P new after)
swapped-count P (y ∷ before) old new after =
    omega (
      arith,
      swapped-count P before old new after,
      count_cons P y (before ++ old ∷ after),
      count_cons P y (before ++ new ∷ after),
    )

pub replaced-count : (P : ℕ → Bool) (old new : ℕ) (xs ys : List ℕ) → IsReplaced old new xs ys →
    count_by P ys + cond (P old) 1 0 ≡ count_by P xs + cond (P new) 1 0
replaced-count P old new xs ys replaced =
    ap (λ zs. count_by P zs + cond (P old) 1 0) replaced.is
    ∙ swapped-count P replaced.before old new replaced.after
    ∙ ap (λ zs. count_by P zs + cond (P new) 1 0) (sym replaced.was)

long : (before : List ℕ) (old new : ℕ) (after : List ℕ) → length (before ++ new ∷ after) ≡ length (before ++ old ∷ after)
long [] old new after = refl
long (y ∷ before) old new after = ap suc (long before old new after)

pub replaced-length : (old new : ℕ) (xs ys : List ℕ) → IsReplaced old new xs ys → length ys ≡ length xs
replaced-length old new xs ys replaced =
    ap length replaced.is ∙ long replaced.before old new replaced.after ∙ ap length (sym replaced.was)
