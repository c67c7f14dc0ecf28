-- The test of one edit answers true exactly if one edit makes one name of the other.
use Rattle.std.proofs.Common.{◌≡◌, ◌≢◌, ◌⊎◌, ◌↔◌, ◌==◌, ◌&&◌, ◌||◌, not, ℕ, Bool, true, false, cond, IsTrue, List, [], ◌∷◌, ◌++◌, bytes_eq, refl, sym, ap, ◌∙◌, subst, ap₂, inl, inr, ⊎_elim, true≢false}
use Rattle.std.specs.Char.{is_ascii_digit}
use Rattle.std.proofs.lemmas.Bool.{and_from, and_parts, not_from_false, or_left, or_right}
use Rattle.std.proofs.lemmas.Bool.Decides.{Decides-eqb, eqb_tells}
use Rattle.std.proofs.lemmas.Slice.Eq.{bytes_eq-Decides}
use Rattle.mistakes.specs.Near.{IsInserted, IsNoDigit, IsOneEdit, IsReplaced, IsSwapped, edits_first, inserts_first, is_no_digit, is_one_edit, replaces_first, swaps_first}

-- ---- tests and facts

or_cases : (x y : Bool) → (x || y) ≡ true → (x ≡ true) ⊎ (y ≡ true)
or_cases true y either = inl refl
or_cases false y either = inr either

no_digit : (byte : ℕ) → is_no_digit byte ≡ true → IsNoDigit byte
no_digit byte none = go (is_ascii_digit byte) none
  where
    go : (b : Bool) → not b ≡ true → b ≡ false
    go true none = sym none
    go false none = refl

same : (xs ys : List ℕ) → bytes_eq xs ys ≡ true → xs ≡ ys
same xs ys = (bytes_eq-Decides xs ys).0

itself : (xs : List ℕ) → bytes_eq xs xs ≡ true
itself xs = (bytes_eq-Decides xs xs).1 refl

-- ---- an edit at the start is one

inserted : (shorter longer : List ℕ) → inserts_first shorter longer ≡ true → IsInserted shorter longer
inserted shorter [] none = absurd (true≢false (sym none))
inserted shorter (byte ∷ after) both =
    let parts = and_parts (is_no_digit byte) (bytes_eq after shorter) both in
    record { before = []; byte = byte; after = shorter; shorter_is = refl; longer_is = ap (λ rest. byte ∷ rest) (same after shorter parts.1); no_digit = no_digit byte parts.0 }

replaced : (x y : ℕ) (xs ys : List ℕ) → x ≢ y → replaces_first (x ∷ xs) (y ∷ ys) ≡ true → IsReplaced (x ∷ xs) (y ∷ ys)
replaced x y xs ys differ all =
    let parts = and_parts (is_no_digit x) (is_no_digit y && bytes_eq xs ys) all in
    let others = and_parts (is_no_digit y) (bytes_eq xs ys) parts.1 in
    record {
      before = [];
      old = x;
      new = y;
      after = ys;
      one_is = ap (λ rest. x ∷ rest) (same xs ys others.1);
      other_is = refl;
      differ = differ;
      old_no_digit = no_digit x parts.0;
      new_no_digit = no_digit y others.0;
    }

swapped : (x y : ℕ) (xs ys : List ℕ) → x ≢ y → swaps_first (x ∷ xs) (y ∷ ys) ≡ true → IsSwapped (x ∷ xs) (y ∷ ys)
swapped x y [] ys differ none = absurd (true≢false (sym none))
swapped x y (z ∷ zs) [] differ none = absurd (true≢false (sym none))
swapped x y (z ∷ zs) (w ∷ ws) differ all =
    let p = and_parts (is_no_digit x) (is_no_digit z && (x == w && (z == y && bytes_eq zs ws))) all in
    let q = and_parts (is_no_digit z) (x == w && (z == y && bytes_eq zs ws)) p.1 in
    let r = and_parts (x == w) (z == y && bytes_eq zs ws) q.1 in
    let s = and_parts (z == y) (bytes_eq zs ws) r.1 in
    let first : x ≡ w = (Decides-eqb x w).0 r.0 in
    let second : z ≡ y = (Decides-eqb z y).0 s.0 in
    record {
      before = [];
      first = x;
      second = z;
      after = zs;
      one_is = refl;
      other_is = ap (λ byte. byte ∷ w ∷ ws) (sym second) ∙ ap (λ byte. z ∷ byte ∷ ws) (sym first) ∙ ap (λ rest. z ∷ x ∷ rest) (sym (same zs ws s.1));
      differ = λ equal. differ (equal ∙ second);
      first_no_digit = no_digit x p.0;
      second_no_digit = no_digit z q.0;
    }

first_edit : (x y : ℕ) (xs ys : List ℕ) → x ≢ y → edits_first (x ∷ xs) (y ∷ ys) ≡ true → IsOneEdit (x ∷ xs) (y ∷ ys)
first_edit x y xs ys differ any =
    let one = x ∷ xs in
    let other = y ∷ ys in
    ⊎_elim (λ passes. inl (inserted one other passes)) (λ rest.
    ⊎_elim (λ passes. inr (inl (inserted other one passes))) (λ rest.
    ⊎_elim (λ passes. inr (inr (inl (replaced x y xs ys differ passes)))) (λ passes. inr (inr (inr (swapped x y xs ys differ passes))))
    (or_cases (replaces_first one other) (swaps_first one other) rest))
    (or_cases (inserts_first other one) (replaces_first one other || swaps_first one other) rest))
    (or_cases (inserts_first one other) (inserts_first other one || (replaces_first one other || swaps_first one other)) any)

-- where one of the names is empty
no_swap : (name : List ℕ) → swaps_first name [] ≡ false
no_swap [] = refl
no_swap (x ∷ []) = refl
no_swap (x ∷ y ∷ ys) = refl

only_inserts : (one other : List ℕ) → replaces_first one other ≡ false → swaps_first one other ≡ false → edits_first one other ≡ true → IsOneEdit one other
only_inserts one other no_replaced no_swapped any =
    ⊎_elim (λ passes. inl (inserted one other passes)) (λ rest.
    ⊎_elim (λ passes. inr (inl (inserted other one passes))) (λ rest.
    ⊎_elim (λ passes. absurd (true≢false (sym passes ∙ no_replaced))) (λ passes. absurd (true≢false (sym passes ∙ no_swapped)))
    (or_cases (replaces_first one other) (swaps_first one other) rest))
    (or_cases (inserts_first other one) (replaces_first one other || swaps_first one other) rest))
    (or_cases (inserts_first one other) (inserts_first other one || (replaces_first one other || swaps_first one other)) any)

-- ---- an edit after the same byte is one

after_byte : (byte : ℕ) (one other : List ℕ) → IsOneEdit one other → IsOneEdit (byte ∷ one) (byte ∷ other)
after_byte byte one other edit =
    ⊎_elim (λ e. inl (with_byte one other e)) (λ rest.
    ⊎_elim (λ e. inr (inl (with_byte other one e))) (λ rest.
    ⊎_elim (λ e. inr (inr (inl (record { before = byte ∷ e.before; old = e.old; new = e.new; after = e.after; one_is = ap (λ name. byte ∷ name) e.one_is; other_is = ap (λ name. byte ∷ name) e.other_is; differ = e.differ; old_no_digit = e.old_no_digit; new_no_digit = e.new_no_digit }))))
    (λ e. inr (inr (inr (record { before = byte ∷ e.before; first = e.first; second = e.second; after = e.after; one_is = ap (λ name. byte ∷ name) e.one_is; other_is = ap (λ name. byte ∷ name) e.other_is; differ = e.differ; first_no_digit = e.first_no_digit; second_no_digit = e.second_no_digit }))))
    rest) rest) edit
  where
    with_byte : (shorter longer : List ℕ) → IsInserted shorter longer → IsInserted (byte ∷ shorter) (byte ∷ longer)
    with_byte shorter longer e = record { before = byte ∷ e.before; byte = e.byte; after = e.after; shorter_is = ap (λ name. byte ∷ name) e.shorter_is; longer_is = ap (λ name. byte ∷ name) e.longer_is; no_digit = e.no_digit }

-- ---- a name that passes the test

pub edit_from_test : (one other : List ℕ) → is_one_edit one other ≡ true → IsOneEdit one other
edit_from_test [] other any = only_inserts [] other refl refl any
edit_from_test (x ∷ xs) [] any = only_inserts (x ∷ xs) [] refl (no_swap (x ∷ xs)) any
edit_from_test (x ∷ xs) (y ∷ ys) any = go (eqb_tells x y) (edit_from_test xs ys)
  where
    go : (((x == y) ≡ true) × (x ≡ y)) ⊎ (((x == y) ≡ false) × (x ≢ y)) → (is_one_edit xs ys ≡ true → IsOneEdit xs ys) → IsOneEdit (x ∷ xs) (y ∷ ys)
    go (inl equal) later =
        let below : is_one_edit xs ys ≡ true = sym (ap (λ b. cond b (is_one_edit xs ys) (edits_first (x ∷ xs) (y ∷ ys))) equal.0) ∙ any in
        subst (λ byte. IsOneEdit (x ∷ xs) (byte ∷ ys)) equal.1 (after_byte x xs ys (later below))
    go (inr apart) later =
        first_edit x y xs ys apart.1 (sym (ap (λ b. cond b (is_one_edit xs ys) (edits_first (x ∷ xs) (y ∷ ys))) apart.0) ∙ any)

-- ---- one edit passes the test

-- a test of two bytes that is known decides
decided : {X : Type 0} (test answer : Bool) (this that : X) → test ≡ answer → cond test this that ≡ cond answer this that
decided test answer this that is = ap (λ b. cond b this that) is

none_from : (byte : ℕ) → IsNoDigit byte → is_no_digit byte ≡ true
none_from byte none = not_from_false (is_ascii_digit byte) none

-- a byte before both names plays no part
before_both : (byte : ℕ) (one other : List ℕ) → is_one_edit one other ≡ true → is_one_edit (byte ∷ one) (byte ∷ other) ≡ true
before_both byte one other passes =
    decided (byte == byte) true (is_one_edit one other) (edits_first (byte ∷ one) (byte ∷ other)) ((Decides-eqb byte byte).1 refl) ∙ passes

first_inserted : (name : List ℕ) (byte : ℕ) → is_no_digit byte ≡ true → is_one_edit name (byte ∷ name) ≡ true
first_inserted [] byte none = or_left (is_no_digit byte && true) _ (and_from (is_no_digit byte) true none refl)
first_inserted (x ∷ xs) byte none = go (eqb_tells x byte) (first_inserted xs x)
  where
    go : (((x == byte) ≡ true) × (x ≡ byte)) ⊎ (((x == byte) ≡ false) × (x ≢ byte)) → (is_no_digit x ≡ true → is_one_edit xs (x ∷ xs) ≡ true) → is_one_edit (x ∷ xs) (byte ∷ x ∷ xs) ≡ true
    go (inl equal) later =
        decided (x == byte) true (is_one_edit xs (x ∷ xs)) (edits_first (x ∷ xs) (byte ∷ x ∷ xs)) equal.0
        ∙ later (subst (λ first. is_no_digit first ≡ true) (sym equal.1) none)
    go (inr apart) later =
        decided (x == byte) false (is_one_edit xs (x ∷ xs)) (edits_first (x ∷ xs) (byte ∷ x ∷ xs)) apart.0
        ∙ or_left (inserts_first (x ∷ xs) (byte ∷ x ∷ xs)) _ (and_from (is_no_digit byte) _ none (itself (x ∷ xs)))

first_deleted : (name : List ℕ) (byte : ℕ) → is_no_digit byte ≡ true → is_one_edit (byte ∷ name) name ≡ true
first_deleted [] byte none = or_left (is_no_digit byte && true) _ (and_from (is_no_digit byte) true none refl)
first_deleted (x ∷ xs) byte none = go (eqb_tells byte x) (first_deleted xs x)
  where
    go : (((byte == x) ≡ true) × (byte ≡ x)) ⊎ (((byte == x) ≡ false) × (byte ≢ x)) → (is_no_digit x ≡ true → is_one_edit (x ∷ xs) xs ≡ true) → is_one_edit (byte ∷ x ∷ xs) (x ∷ xs) ≡ true
    go (inl equal) later =
        decided (byte == x) true (is_one_edit (x ∷ xs) xs) (edits_first (byte ∷ x ∷ xs) (x ∷ xs)) equal.0
        ∙ later (subst (λ first. is_no_digit first ≡ true) equal.1 none)
    go (inr apart) later =
        decided (byte == x) false (is_one_edit (x ∷ xs) xs) (edits_first (byte ∷ x ∷ xs) (x ∷ xs)) apart.0
        ∙ or_right (inserts_first (byte ∷ x ∷ xs) (x ∷ xs)) _
        (or_left (inserts_first (x ∷ xs) (byte ∷ x ∷ xs)) _ (and_from (is_no_digit byte) _ none (itself (x ∷ xs))))

byte_inserted : (before : List ℕ) (byte : ℕ) (after : List ℕ) → is_no_digit byte ≡ true → is_one_edit (before ++ after) (before ++ byte ∷ after) ≡ true
byte_inserted [] byte after none = first_inserted after byte none
byte_inserted (x ∷ xs) byte after none = before_both x (xs ++ after) (xs ++ byte ∷ after) (byte_inserted xs byte after none)

byte_deleted : (before : List ℕ) (byte : ℕ) (after : List ℕ) → is_no_digit byte ≡ true → is_one_edit (before ++ byte ∷ after) (before ++ after) ≡ true
byte_deleted [] byte after none = first_deleted after byte none
byte_deleted (x ∷ xs) byte after none = before_both x (xs ++ byte ∷ after) (xs ++ after) (byte_deleted xs byte after none)

-- two bytes that aren't the same
apart_from : (x y : ℕ) → x ≢ y → (x == y) ≡ false
apart_from x y differ = go (eqb_tells x y)
  where
    go : (((x == y) ≡ true) × (x ≡ y)) ⊎ (((x == y) ≡ false) × (x ≢ y)) → (x == y) ≡ false
    go (inl equal) = absurd (differ equal.1)
    go (inr apart) = apart.0

byte_replaced : (before : List ℕ) (old new : ℕ) (after : List ℕ) → old ≢ new → is_no_digit old ≡ true → is_no_digit new ≡ true → is_one_edit (before ++ old ∷ after) (before ++ new ∷ after) ≡ true
byte_replaced [] old new after differ old_none new_none =
    let one = old ∷ after in
    let other = new ∷ after in
    decided (old == new) false (is_one_edit after after) (edits_first one other) (apart_from old new differ)
    ∙ or_right (inserts_first one other) _ (or_right (inserts_first other one) _
    (or_left (replaces_first one other) _ (and_from (is_no_digit old) _ old_none (and_from (is_no_digit new) _ new_none (itself after)))))
byte_replaced (x ∷ xs) old new after differ old_none new_none = before_both x (xs ++ old ∷ after) (xs ++ new ∷ after) (byte_replaced xs old new after differ old_none new_none)

bytes_swapped : (before : List ℕ) (first second : ℕ) (after : List ℕ) → first ≢ second → is_no_digit first ≡ true → is_no_digit second ≡ true → is_one_edit (before ++ first ∷ second ∷ after) (before ++ second ∷ first ∷ after) ≡ true
bytes_swapped [] first second after differ first_none second_none =
    let one = first ∷ second ∷ after in
    let other = second ∷ first ∷ after in
    let equal : (byte : ℕ) → (byte == byte) ≡ true = λ byte. (Decides-eqb byte byte).1 refl in
    decided (first == second) false (is_one_edit (second ∷ after) (first ∷ after)) (edits_first one other) (apart_from first second differ)
    ∙ or_right (inserts_first one other) _ (or_right (inserts_first other one) _ (or_right (replaces_first one other) _
    (and_from (is_no_digit first) _ first_none (and_from (is_no_digit second) _ second_none
    (and_from (first == first) _ (equal first) (and_from (second == second) _ (equal second) (itself after)))))))
bytes_swapped (x ∷ xs) first second after differ first_none second_none = before_both x (xs ++ first ∷ second ∷ after) (xs ++ second ∷ first ∷ after) (bytes_swapped xs first second after differ first_none second_none)

pub test_from_edit : (one other : List ℕ) → IsOneEdit one other → is_one_edit one other ≡ true
test_from_edit one other edit =
    ⊎_elim (λ e. ap₂ is_one_edit e.shorter_is e.longer_is ∙ byte_inserted e.before e.byte e.after (none_from e.byte e.no_digit)) (λ rest.
    ⊎_elim (λ e. ap₂ is_one_edit e.longer_is e.shorter_is ∙ byte_deleted e.before e.byte e.after (none_from e.byte e.no_digit)) (λ rest.
    ⊎_elim (λ e. ap₂ is_one_edit e.one_is e.other_is ∙ byte_replaced e.before e.old e.new e.after e.differ (none_from e.old e.old_no_digit) (none_from e.new e.new_no_digit))
    (λ e. ap₂ is_one_edit e.one_is e.other_is ∙ bytes_swapped e.before e.first e.second e.after e.differ (none_from e.first e.first_no_digit) (none_from e.second e.second_no_digit))
    rest) rest) edit

-- both ways, for a test with this answer
pub exact_test : (answer : Bool) (one other : List ℕ) → answer ≡ is_one_edit one other → IsTrue answer ↔ IsOneEdit one other
exact_test answer one other is = (λ passes. edit_from_test one other (sym is ∙ passes), λ edit. is ∙ test_from_edit one other edit)
