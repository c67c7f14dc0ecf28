-- The pin that decides is one of the pins.
use Rattle.std.proofs.Common.{◌≡◌, ℕ, ◌+◌, ◌<◌, ◌≤◌, ◌==◌, true, false, Bool, cond, max, List, [], ◌∷◌, ◌++◌, length, take, get_or, refl, ap, sym, ◌∙◌, arith, Option, None, Some, true≢false}
use Rattle.std.specs.Option.{option_and_then}
use Rattle.std.specs.List.{list_any, position_or_len}
use Rattle.std.proofs.lemmas.List.{take_more}
use Rattle.std.proofs.lemmas.List.Recursion.{max_push}
use Rattle.std.proofs.lemmas.Option.{none-some, same_Some}
use Rattle.std.proofs.lemmas.Bool.{eq-eqb, eqb-false}
use Rattle.logic3.specs.declared.value.Value.{Value}
use Rattle.logic3.specs.declared.value.Value.TheVariants.{Zero, One, Unknown}
use Rattle.logic3.specs.declared.gates.GateKind.{GateKind}
use Rattle.logic3.specs.declared.gates.GateKind.TheVariants.{And, Nand, Or, Nor, Xor, Xnor, Not, Buf}
use Rattle.logic3.specs.Value.{is_same, is_same_equiv, opposite}
use Rattle.logic3.specs.Gate.{conjunction, disjunction, parity, only_pin, value_of_gate, HasArity}
use Rattle.causes.specs.Deciding.{controlling, if_shown, deciding_value, greatest, first_greatest}

-- where some element passes, the first that does is one of the list
pub any_place : {A : Type 0} (p : A → Bool) (xs : List A) → list_any p xs ≡ true → position_or_len p xs < length xs
any_place p [] some = absurd (true≢false (sym some))
any_place p (x ∷ xs) some = go (p x) refl (λ more. any_place p xs more)
  where
    go : (here : Bool) → p x ≡ here → (list_any p xs ≡ true → position_or_len p xs < length xs) → position_or_len p (x ∷ xs) < length (x ∷ xs)
    go true e rest = rw e (omega arith)
    go false e rest = let more = rest (let e2 = some in rw e at e2) in rw e (omega (arith, more))

-- and where none does, its place is past the last
pub none_place : {A : Type 0} (p : A → Bool) (xs : List A) → list_any p xs ≡ false → position_or_len p xs ≡ length xs
none_place p [] none = refl
none_place p (x ∷ xs) none = go (p x) refl (λ more. none_place p xs more)
  where
    go : (here : Bool) → p x ≡ here → (list_any p xs ≡ false → position_or_len p xs ≡ length xs) → position_or_len p (x ∷ xs) ≡ length (x ∷ xs)
    go true e rest = absurd (true≢false (let e2 = none in rw e at e2))
    go false e rest = let more = rest (let e2 = none in rw e at e2) in rw e (omega (arith, more))

-- whether one does, by the place
pub any_by_place : {A : Type 0} (p : A → Bool) (xs : List A) → position_or_len p xs < length xs → list_any p xs ≡ true
any_by_place p xs within = go (list_any p xs) refl
  where
    go : (some : Bool) → list_any p xs ≡ some → list_any p xs ≡ true
    go true e = e
    go false e = let past = none_place p xs e in absurd (omega (arith, past, within))

pub none_by_place : {A : Type 0} (p : A → Bool) (xs : List A) → length xs ≤ position_or_len p xs → list_any p xs ≡ false
none_by_place p xs past = go (list_any p xs) refl
  where
    go : (some : Bool) → list_any p xs ≡ some → list_any p xs ≡ false
    go true e = let within = any_place p xs e in absurd (omega (arith, past, within))
    go false e = e

-- ---- X of a gate comes from an X at a pin

is_unknown : (v : Value) → v ≡ Unknown → is_same Unknown v ≡ true
is_unknown v e = ap (is_same Unknown) e

opposite-unknown : (v : Value) → is_same Unknown (opposite v) ≡ true → is_same Unknown v ≡ true
opposite-unknown Zero e = absurd (true≢false (sym e))
opposite-unknown One e = absurd (true≢false (sym e))
opposite-unknown Unknown e = refl

-- pins without v and X are all w, where these are the three values
conjunction-unknown : (pins : List Value) → is_same Unknown (conjunction pins) ≡ true → list_any (is_same Unknown) pins ≡ true
conjunction-unknown [] e = absurd (true≢false (sym e))
conjunction-unknown (Zero ∷ pins) e = absurd (true≢false (sym e))
conjunction-unknown (One ∷ pins) e = conjunction-unknown pins e
conjunction-unknown (Unknown ∷ pins) e = refl

disjunction-unknown : (pins : List Value) → is_same Unknown (disjunction pins) ≡ true → list_any (is_same Unknown) pins ≡ true
disjunction-unknown [] e = absurd (true≢false (sym e))
disjunction-unknown (Zero ∷ pins) e = disjunction-unknown pins e
disjunction-unknown (One ∷ pins) e = absurd (true≢false (sym e))
disjunction-unknown (Unknown ∷ pins) e = refl

parity-unknown : (pins : List Value) → is_same Unknown (parity pins) ≡ true → list_any (is_same Unknown) pins ≡ true
parity-unknown pins e = go (list_any (is_same Unknown) pins) refl
  where
    known : (odd : Bool) → is_same Unknown (cond odd One Zero) ≡ true → ⊥
    known true e = true≢false (sym e)
    known false e = true≢false (sym e)

    go : (some : Bool) → list_any (is_same Unknown) pins ≡ some → list_any (is_same Unknown) pins ≡ true
    go true s = s
    go false s = absurd (known _ (let more = e in rw s at more))

only_pin-unknown : (pins : List Value) → 0 < length pins → is_same Unknown (only_pin pins) ≡ true → list_any (is_same Unknown) pins ≡ true
only_pin-unknown [] some e = absurd (omega arith)
only_pin-unknown (pin ∷ pins) some e = rw e refl

pub unknown_pin : (kind : GateKind) (pins : List Value) → HasArity kind (length pins) →
    is_same Unknown (value_of_gate kind pins) ≡ true → list_any (is_same Unknown) pins ≡ true
unknown_pin And pins h e = conjunction-unknown pins e
unknown_pin Nand pins h e = conjunction-unknown pins (opposite-unknown (conjunction pins) e)
unknown_pin Or pins h e = disjunction-unknown pins e
unknown_pin Nor pins h e = disjunction-unknown pins (opposite-unknown (disjunction pins) e)
unknown_pin Xor pins h e = parity-unknown pins e
unknown_pin Xnor pins h e = parity-unknown pins (opposite-unknown (parity pins) e)
unknown_pin Not pins h e = only_pin-unknown pins (omega (arith, h)) (opposite-unknown (only_pin pins) e)
unknown_pin Buf pins h e = only_pin-unknown pins (omega (arith, h)) e

pub some_pin : (kind : GateKind) (pins : ℕ) → HasArity kind pins → 0 < pins
some_pin And pins h = h
some_pin Nand pins h = h
some_pin Or pins h = h
some_pin Nor pins h = h
some_pin Xor pins h = h
some_pin Xnor pins h = h
some_pin Not pins h = omega (arith, h)
some_pin Buf pins h = omega (arith, h)

-- a pin shows the value by which pins decide
pub deciding_value-shown : (kind : GateKind) (values : List Value) (value : Value) → HasArity kind (length values) →
    deciding_value kind values ≡ Some value → list_any (is_same value) values ≡ true
deciding_value-shown kind values value h is = go (is_same (value_of_gate kind values) Unknown) refl
  where
    of : (v : Value) → if_shown values v ≡ Some value → list_any (is_same value) values ≡ true
    of v e = at (list_any (is_same v) values) refl
      where
        at : (some : Bool) → list_any (is_same v) values ≡ some → list_any (is_same value) values ≡ true
        at true s = let same = same_Some v value (let e2 = e in rw s at e2) in rw (← same) s
        at false s = absurd (none-some value (let e2 = e in rw s at e2))

    by : (settled : Option Value) → option_and_then (if_shown values) settled ≡ Some value → list_any (is_same value) values ≡ true
    by None e = absurd (none-some value e)
    by (Some v) e = of v e

    go : (unknown : Bool) → is_same (value_of_gate kind values) Unknown ≡ unknown → list_any (is_same value) values ≡ true
    go true u =
        let same = same_Some Unknown value (let e2 = is in rw u at e2) in
        rw (← same) (unknown_pin kind values h (is_same_equiv.symm Unknown (value_of_gate kind values) ∙ u))
    go false u = by (controlling kind) (let e2 = is in rw u at e2)

-- ---- the greatest is one of the numbers

greatest_push : (numbers : List ℕ) (n : ℕ) → greatest (numbers ++ n ∷ []) ≡ max (greatest numbers) n
greatest_push numbers n = max_push greatest (λ n. n) refl (λ x xs. refl) numbers n

pub greatest_more : (numbers : List ℕ) (i : ℕ) → i < length numbers → greatest (take (i + 1) numbers) ≡ max (greatest (take i numbers)) (get_or numbers i 0)
greatest_more numbers i within = ap greatest (take_more numbers i 0 within) ∙ greatest_push (take i numbers) (get_or numbers i 0)

one_is_greatest : (numbers : List ℕ) (top : ℕ) → 0 < length numbers → greatest numbers ≡ top → list_any (λ n. n == top) numbers ≡ true
one_is_greatest [] top some is = absurd (omega arith)
one_is_greatest (n ∷ []) top some is = let same : n ≡ top = omega (arith, is) in rw (eq-eqb n top same) refl
one_is_greatest (n ∷ m ∷ numbers) top some is = go (n == top) refl (λ more. one_is_greatest (m ∷ numbers) top (omega arith) more)
  where
    go : (here : Bool) → (n == top) ≡ here → (greatest (m ∷ numbers) ≡ top → list_any (λ n. n == top) (m ∷ numbers) ≡ true) → list_any (λ n. n == top) (n ∷ m ∷ numbers) ≡ true
    go true e rest = rw e refl
    go false e rest = rw e (rest (let other = eqb-false n top e in omega (arith, is, other)))

pub first_greatest-within : (numbers : List ℕ) → 0 < length numbers → first_greatest numbers < length numbers
first_greatest-within numbers some = any_place (λ n. n == greatest numbers) numbers (one_is_greatest numbers (greatest numbers) some refl)
